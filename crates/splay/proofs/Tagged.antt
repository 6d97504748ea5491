-- From the words of an arena to the memory of its slots: what the calls of the splay read and store.
use mathlib.Core.Bool.{false}
use mathlib.Core.List.{List}
use mathlib.Core.Logic.{⊎_elim}
use mathlib.Core.Path.{◌≡◌, refl, ap, ◌∙◌, subst}
use Prim.Native.Nat.{ℕ, ◌+◌, ◌*◌, ◌≤◌, ◌<◌}
use native.Mathlib.Nat.{eq-zero-or-pos}
use native.Mathlib.Omega.{arith}
use lib.ListN.{length, get_or, set}
use Rattle.rules.specs.Order.{Side, left, right, other, toward, is_toward, by_number}
use Rattle.rules.specs.Edition.{edition, Width}
use Rattle.rules.specs.Tree.{Tree, times, size}
use Rattle.rules.proofs.Order.{order_from}
use Rattle.rules.proofs.Held.{tree_from, tree_from_holds}
use Rattle.rules.proofs.Pigeons.{few}
use Rattle.node.specs.Stands.{off, Stands, Kept, Inside}
use Rattle.node.proofs.Memory.{Relinked}
use Rattle.node.proofs.Words.{slots, link_word, relinked_at, kept_refl, kept_trans, inside_kept, kept_set}
use Rattle.splay.specs.Moves.{rotated}
use Rattle.splay.proofs.Paths.{Hung}
use Rattle.splay.proofs.Walk.{InTree, LinkRead, Rotated}

module _ (wd : ℕ) where
  -- A link's reading.
  pub link_read : (d : Side) (w : List ℕ) (x y : ℕ) → y ≡ get_or w ((3 + wd) * x + off d) 0 → LinkRead d (slots wd w) x y
  link_read d w x y e s p = e ∙ link_word d wd w x s p

  -- What hang ensures, as a change of the slots.
  module _ (d : Side) (w w' : List ℕ) (top end x r : ℕ) (f : end ≡ 0 → (w' ≡ w) × (r ≡ x))
      (g : 0 < end → (w' ≡ set w ((3 + wd) * end + off d) x) × (r ≡ top)) (b : 0 < end → Inside wd w end) where
    pub hung_at : Hung d top end x r (slots wd w) (slots wd w')
    hung_at =
        record {
          alone = λ z. (let (ew, er) = f z in (λ i. ap (λ (u : List ℕ). slots wd u i) ew, er));
          joined = λ s e. (let (ew, er) = g (omega arith) in (relinked_at d w x e (b (omega arith)) ew, er));
        }

    pub hung_kept : Kept w w'
    hung_kept =
        ⊎_elim (λ z. rw (f z).0 kept_refl) (λ p. kept_set (off d) x (b p) (g p).0) (eq-zero-or-pos end)

  -- What rotate ensures.
  module _ (d : Side) (w w' : List ℕ) (x up : ℕ) (bx : Inside wd w x) (bu : Inside wd w up) (e : w' ≡ rotated wd (off d) (off (other d)) w x up) where
    abbrev half : List ℕ
    half = set w ((3 + wd) * x + off d) (get_or w ((3 + wd) * up + off (other d)) 0)

    half_kept : Kept w half
    half_kept = kept_set (off d) _ bx refl

    pub rotated_at : Rotated d x up (slots wd w) (slots wd w')
    rotated_at =
        record {
          between = slots wd half;
          low = λ s c es ec.
              subst (λ (v : ℕ). Relinked d s v (slots wd w) (slots wd half)) (link_word (other d) wd w up c ec)
              (relinked_at d w {w' = half} (get_or w ((3 + wd) * up + off (other d)) 0) es bx refl);
          high = λ s c es ec. relinked_at (other d) half x ec (inside_kept half_kept bu) e;
        }

    pub rotated_kept : Kept w w'
    rotated_kept = kept_trans half_kept (kept_set (off (other d)) x (inside_kept half_kept bu) e)

-- Tests on keys, as orders.
pub right_of : (a b : ℕ) → (a ≡ b → ⊥) → b ≤ a → by_number a b ≡ toward right
right_of a b n h = order_from (toward right) a b (omega arith)

-- The key does not lie on the side d of the other.
abbrev pub Past : Side → ℕ → ℕ → Type 0
Past left a b = b ≤ a
Past right a b = a ≤ b

pub not_toward : (d : Side) (a b : ℕ) → Past d a b → is_toward d (by_number a b) ≡ false
not_toward left a b h = grind arith
not_toward right a b h = grind arith

-- A tree that stands has no more nodes than there are words, and is the one that is read off the words.
module _ {wd : ℕ} {w : List ℕ} {x : ℕ} {t : Tree ℕ} (h : Stands (edition wd) w x t) where
  pub stands_few : size t ≤ length w
  stands_few =
      few (length w) t h.once
      (λ s q. ⊎_elim (λ z. z) (λ p. absurd (let b = h.inside s p in omega arith)) (eq-zero-or-pos (times s t)))

  pub stands_read : tree_from (length w) (slots wd w) x ≡ t
  stands_read = rw h.at (tree_from_holds (slots wd w) (length w) t h.holds stands_few)

  -- A link into the tree leads to a slot that is there.
  pub in_words : Width wd → (w' : List ℕ) (y : ℕ) → Kept w w' → InTree t y → Inside wd w' y
  in_words v w' y k i = let b = h.inside i.slot i.one in rw i.is (omega (arith, k.len))
