-- Trees that stand in words: their subtrees, and a tree with another right subtree hung on its root.
use mathlib.Core.List.{List}
use mathlib.Core.Path.{◌≡◌, refl, sym, ap, ◌∙◌, subst}
use Prim.Native.Nat.{ℕ, ◌+◌, ◌*◌, ◌≤◌, ◌<◌}
use native.Mathlib.Omega.{arith}
use lib.ListN.{get_or, set}
use Rattle.rules.specs.Order.{left, right, by_number}
use Rattle.rules.specs.Edition.{edition, Width}
use Rattle.rules.specs.Tree.{Entry, Tree, none, node, times, link_to}
use Rattle.rules.specs.Splay.{splay, walk}
use Rattle.rules.specs.Perform.{hung_on}
use Rattle.rules.proofs.Hit.{hit_same}
use Rattle.rules.proofs.Splay.{Real, splay_weighs, splay_real}
use Rattle.node.specs.Stands.{Stands, Changed, Inside}
use Rattle.node.proofs.Memory.{real_link, holds_same, same_more, relinked_same, relinked_far}
use Rattle.node.proofs.Words.{relinked_at, kept_refl, kept_trans, kept_set}
use Rattle.splay.specs.Moves.{Somewhere, Became, root_gone}
use Rattle.splay.proofs.Tagged.{link_read}

module _ {wd : ℕ} {w : List ℕ} {x : ℕ} (e : Entry ℕ) (l r : Tree ℕ) (h : Stands (edition wd) w x (node e l r)) where
  pub left_stands : Stands (edition wd) w (link_to l) l
  left_stands =
      record {
        at = refl;
        holds = h.holds.1;
        once = λ s. omega (arith, h.once s);
        inside = λ s p. h.inside s (omega arith);
      }

  pub right_stands : Stands (edition wd) w (link_to r) r
  right_stands =
      record {
        at = refl;
        holds = h.holds.2;
        once = λ s. omega (arith, h.once s);
        inside = λ s p. h.inside s (omega arith);
      }

  pub left_link : (y : ℕ) → y ≡ get_or w ((3 + wd) * x + 2) 0 → y ≡ link_to l
  left_link y p = link_read wd left w x y p e.slot h.at ∙ ap (λ c. c.left) h.holds.0

  pub right_link : (y : ℕ) → y ≡ get_or w ((3 + wd) * x + 3) 0 → y ≡ link_to r
  right_link y p = link_read wd right w x y p e.slot h.at ∙ ap (λ c. c.right) h.holds.0

-- The words of a tree's root are there.
pub root_in : {wd : ℕ} {w : List ℕ} {x : ℕ} (t : Tree ℕ) → Width wd → Stands (edition wd) w x t → 0 < x → Inside wd w x
root_in none v h p = absurd (omega (arith, h.at))
root_in (node e l r) v h p = let b = h.inside e.slot (omega (arith, hit_same e.slot)) in rw h.at (omega arith)

pub unchanged : {wd : ℕ} {w : List ℕ} {f : ℕ → ℕ} → Changed (edition wd) f w w
unchanged = record { kept = kept_refl; same = λ s z. refl }

splay_none : (k : ℕ) → ((splay by_number k none).tree ≡ none) × ((splay by_number k none).count ≡ 0)
unfolding splay walk
splay_none k = (refl, refl)

-- A tree with a node, somewhere: the words of its root are there.
pub start_in : {wd : ℕ} {w : List ℕ} {x : ℕ} → Width wd → Somewhere wd w x → Inside wd w x
start_in v (t, h, p) = root_in t v h p

-- There is no left subtree: the right one is the tree.
pub gone_right : {wd : ℕ} {w : List ℕ} {x l y : ℕ} (k : ℕ) {t : Tree ℕ} → l ≡ get_or w ((3 + wd) * x + 2) 0 → l ≡ 0 → y ≡ get_or w ((3 + wd) * x + 3) 0
    → Stands (edition wd) w x t → Somewhere wd w x → Became wd w w y t (root_gone by_number k t).tree × (0 ≡ (root_gone by_number k t).count)
gone_right k {t = none} el z er h (u, g, p) = absurd (omega (arith, h.at))
gone_right k {t = node e (node c a b) r} el z er h (u, g, p) = absurd (omega (arith, left_link e (node c a b) r h _ el))
gone_right {wd} {w} {x} {y = y} k {t = node e none r} el z er h (u, g, p) =
    let ey : y ≡ link_to r = right_link e none r h y er in
    let et : (root_gone by_number k (node e none r)).tree ≡ r = ap (λ (u : Tree ℕ). hung_on u r) (splay_none k).0 in (
      record {
        stands = subst (λ (u : Tree ℕ). Stands (edition wd) w y u) (sym et) (subst (λ (v : ℕ). Stands (edition wd) w v r) (sym ey) (right_stands e none r h));
        only = unchanged;
      },
      sym (splay_none k).1,
    )

-- There is one: it stands, so that it can be splayed.
pub left_somewhere : {wd : ℕ} {w : List ℕ} {x y : ℕ} → Somewhere wd w x → y ≡ get_or w ((3 + wd) * x + 2) 0 → (y ≡ 0 → ⊥) → Somewhere wd w y
left_somewhere (none, h, p) e q = absurd (omega (arith, h.at))
left_somewhere {wd} {w} {x} {y} (node c l r, h, p) e q =
    let ey : y ≡ link_to l = left_link c l r h y e in
    (l, subst (λ (v : ℕ). Stands (edition wd) w v l) (sym ey) (left_stands c l r h), omega arith)

-- What the splay of the left subtree ensures.
abbrev pub SplayedAt : ℕ → ℕ → List ℕ → ℕ → List ℕ → ℕ → ℕ → Type 0
SplayedAt wd k w y w₁ top n =
    (t : Tree ℕ) → Stands (edition wd) w y t → Became wd w w₁ top t (splay by_number k t).tree × (n ≡ (splay by_number k t).count)

-- r becomes the right subtree of the root of t.
hung : {wd : ℕ} {w w' : List ℕ} {x : ℕ} → Width wd → (t r : Tree ℕ) → Stands (edition wd) w x t → Real t → Stands (edition wd) w (link_to r) r → ((s : ℕ) → times s t + times s r ≤ 1)
    → w' ≡ set w ((3 + wd) * x + 3) (link_to r) → Stands (edition wd) w' x (hung_on t r) × Changed (edition wd) (λ s. times s t) w w'
hung v none r h p hr one ew = absurd p
hung {wd} {w} {w'} {x} v (node e a b) r h p hr one ew =
    let bx = root_in (node e a b) v h (omega (arith, h.at)) in
    let q = relinked_at right w {w' = w'} (link_to r) h.at bx ew in
    let k = kept_set {w = w} {w' = w'} 3 (link_to r) bx ew in
    let s = relinked_same q in (
      record {
        at = h.at;
        holds = (
          relinked_far left e _ _ q h.holds.0,
          holds_same s a (λ z o. omega (arith, one z)) h.holds.1,
          holds_same s r (λ z o. omega (arith, one z)) hr.holds,
        );
        once = λ z. omega (arith, one z);
        inside = λ z o. grind (arith, h.inside z, hr.inside z, k.len);
      },
      record { kept = k; same = same_more (λ z o. omega arith) s },
    )

pub top_in : {wd : ℕ} {w w₁ : List ℕ} {x y top n : ℕ} (k : ℕ) → Width wd → Somewhere wd w x → y ≡ get_or w ((3 + wd) * x + 2) 0 → (y ≡ 0 → ⊥)
    → SplayedAt wd k w y w₁ top n → Inside wd w₁ top
top_in {wd} {w₁ = w₁} {top = top} k v s e q f =
    let (l, h, p) = left_somewhere s e q in
    by (splay by_number k l).tree (splay_real by_number k l (real_link l (omega (arith, h.at)))) (f l h).0.stands
  where
    by : (t : Tree ℕ) → Real t → Stands (edition wd) w₁ top t → Inside wd w₁ top
    by none o s = absurd o
    by (node u a b) o s = root_in (node u a b) v s (omega (arith, s.at))

pub gone : {wd : ℕ} {w w₁ w₂ : List ℕ} {x y z top n : ℕ} (k : ℕ) {t : Tree ℕ} → Width wd → y ≡ get_or w ((3 + wd) * x + 2) 0 → (y ≡ 0 → ⊥) → z ≡ get_or w ((3 + wd) * x + 3) 0
    → SplayedAt wd k w y w₁ top n → w₂ ≡ set w₁ ((3 + wd) * top + 3) z → Stands (edition wd) w x t → Somewhere wd w x
    → Became wd w w₂ top t (root_gone by_number k t).tree × (n ≡ (root_gone by_number k t).count)
gone k {t = none} v e q er f ew h (u, g, p) = absurd (omega (arith, h.at))
gone {wd} {w} {w₁} {w₂} {x} {y} {z} {top} k {t = node c l r} v e q er f ew h (u, g, p) =
    let ey : y ≡ link_to l = left_link c l r h y e in
    let ez : z ≡ link_to r = right_link c l r h z er in
    let (b, en) = f l (subst (λ (v : ℕ). Stands (edition wd) w v l) (sym ey) (left_stands c l r h)) in
    let n : (s : ℕ) → times s (splay by_number k l).tree ≡ times s l = λ s. splay_weighs by_number k _ l in
    let hr : Stands (edition wd) w₁ (link_to r) r =
    record {
      at = refl;
      holds = holds_same b.only.same r (λ s o. omega (arith, h.once s)) h.holds.2;
      once = λ s. omega (arith, h.once s);
      inside = λ s o. (let q = h.inside s (omega arith) in omega (arith, b.only.kept.len));
    } in
    let (st, ch) =
    hung v (splay by_number k l).tree r b.stands (splay_real by_number k l (real_link l (omega arith))) hr
    (λ s. omega (arith, n s, h.once s)) (ew ∙ ap (set w₁ ((3 + wd) * top + 3)) ez) in (
      record {
        stands = st;
        only =
            record {
              kept = kept_trans b.only.kept ch.kept;
              same = λ s o. ch.same s (omega (arith, n s)) ∙ b.only.same s (omega arith);
            };
      },
      en,
    )
