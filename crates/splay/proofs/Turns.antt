-- The turns of the splay's loop, over words: the loop's invariant, the ways out of a turn, and what is stored at the end.
use mathlib.Core.List.{List}
use mathlib.Core.Path.{◌≡◌, refl, sym, subst}
use Prim.Native.Nat.{ℕ, ◌+◌, ◌*◌, ◌≤◌, ◌<◌}
use native.Mathlib.Omega.{arith}
use lib.ListN.{length, get_or, set}
use Rattle.rules.specs.Order.{Side, left, right, other, of_side, equal, toward, by_number}
use Rattle.rules.specs.Edition.{edition, Width}
use Rattle.rules.specs.Tree.{Tree, none, node, times, size}
use Rattle.rules.specs.Splay.{splay}
use Rattle.rules.proofs.Order.{Says, order_from}
use Rattle.rules.proofs.Held.{tree_from}
use Rattle.rules.proofs.Splay.{splay_weighs}
use Rattle.node.specs.Stands.{off, Stands, Kept, Inside}
use Rattle.node.proofs.Words.{slots, relinked_at, kept_refl, kept_trans, inside_kept, kept_set}
use Rattle.splay.specs.Moves.{rotated, Somewhere, Became}
use Rattle.splay.proofs.Walk.{InTree, KeyRead, Rotated}
use Rattle.splay.proofs.Steps.{place_lr, place_in, end_there, Walking, Stopped, Linkable, Child, child, child_in, walking_lr, walking_rl, stop_none, stop_equal, link_plain, stop_risen, link_risen, Next, advance, stopped_rl, begin}
use Rattle.splay.proofs.Finish.{finish}
use Rattle.splay.proofs.Tagged.{link_read, hung_at, hung_kept, rotated_at, rotated_kept, Past, not_toward, stands_few, stands_read, in_words}

-- The tree that stands at a link, read off the words.
abbrev pub read_off : ℕ → List ℕ → ℕ → Tree ℕ
read_off wd w x = tree_from (length w) (slots wd w) x

module _ (wd : ℕ) (w₀ : List ℕ) (start key : ℕ) where
  abbrev first : Tree ℕ
  first = read_off wd w₀ start

  -- What is left at a link.
  abbrev pub left_at : List ℕ → ℕ → ℕ
  left_at w x = size (tree_from (length w₀) (slots wd w) x)

  -- What holds all along.
  pub record Since (w : List ℕ) : Type 0 where
    pub width : Width wd
    pub stands : Stands (edition wd) w₀ start first
    pub kept : Kept w₀ w

  within : {w : List ℕ} {y : ℕ} → Since w → InTree first y → Inside wd w y
  within {w} {y} s i = in_words s.stands s.width w y s.kept i

  -- The loop's invariant: the walk, as it goes to the left, and what it says of the words, for the tactics to read.
  pub record Going (w : List ℕ) (x rtop rend ltop lend count : ℕ) : Type 0 where
    pub since : Since w
    pub near : Tree ℕ
    pub walk : Walking by_number key left first (slots wd w₀) (slots wd w) x rtop rend ltop lend count near
    pub inside : Inside wd w x
    pub few : count + 2 ≤ 2 * length w₀
    pub left_in : 0 < get_or w ((3 + wd) * x + 2) 0 → Inside wd w (get_or w ((3 + wd) * x + 2) 0)
    pub right_in : 0 < get_or w ((3 + wd) * x + 3) 0 → Inside wd w (get_or w ((3 + wd) * x + 3) 0)
    pub rend_in : 0 < rend → Inside wd w rend
    pub lend_in : 0 < lend → Inside wd w lend

  -- Before a link on the side d; `most` bounds what is left.
  pub record Linking (d : Side) (w : List ℕ) (x gtop gend otop oend count most : ℕ) : Type 0 where
    pub since : Since w
    pub walk : Linkable by_number key d first (slots wd w₀) (slots wd w) x gtop gend otop oend count most

  -- At the stop.
  pub record Halted (w : List ℕ) (x rtop rend ltop lend count : ℕ) : Type 0 where
    pub since : Since w
    pub walk : Stopped by_number key left first (slots wd w₀) (slots wd w) x rtop rend ltop lend count

  near_in : (d : Side) {w : List ℕ} {x gtop gend otop oend count : ℕ} {near : Tree ℕ} → Since w
      → Walking by_number key d first (slots wd w₀) (slots wd w) x gtop gend otop oend count near
      → 0 < get_or w ((3 + wd) * x + off d) 0 → Inside wd w (get_or w ((3 + wd) * x + off d) 0)
  near_in d {w} {x} s v p =
      within s (child_in by_number key (child by_number key v (link_read wd d w x _ refl) (λ z. omega arith)))

  going : {w : List ℕ} {x rtop rend ltop lend count : ℕ} {near : Tree ℕ} → Since w
      → Walking by_number key left first (slots wd w₀) (slots wd w) x rtop rend ltop lend count near → Going w x rtop rend ltop lend count
  going {w} {x} {near = near} s v =
      record {
        since = s;
        near = near;
        walk = v;
        inside = within s (place_in v.at);
        few = omega (arith, v.bound, stands_few s.stands);
        left_in = near_in left s v;
        right_in = near_in right s (walking_lr by_number key v);
        rend_in = λ p. within s (end_there v.at p);
        lend_in = λ p. within s (end_there (place_lr v.at) p);
      }

  pub go : Width wd → Somewhere wd w₀ start → Going w₀ start 0 0 0 0 0
  go v (none, h, p) = absurd (omega (arith, h.at))
  go v (node e l r, h, p) =
      let q : node e l r ≡ first = sym (stands_read h) in
      going (record { width = v; stands = subst (λ (u : Tree ℕ). Stands (edition wd) w₀ start u) q h; kept = kept_refl })
      (subst (λ (u : Tree ℕ). Walking by_number key left u (slots wd w₀) (slots wd w₀) start 0 0 0 0 0 l) q (begin by_number key e l r h.at h.holds h.once))

  -- The walk, as it goes to a side.
  back : (d : Side) {w : List ℕ} {x gtop gend otop oend count : ℕ} {near : Tree ℕ} → Since w
      → Walking by_number key d first (slots wd w₀) (slots wd w) x gtop gend otop oend count near
      → Going w x (of_side d gtop otop) (of_side d gend oend) (of_side d otop gtop) (of_side d oend gend) count
  back left s v = going s v
  back right s v = going s (walking_rl by_number key v)

  module _ {w : List ℕ} {x rtop rend ltop lend count : ℕ} where
    way : (d : Side) → Going w x rtop rend ltop lend count → (near : Tree ℕ)
        × Walking by_number key d first (slots wd w₀) (slots wd w) x (of_side d rtop ltop) (of_side d rend lend) (of_side d ltop rtop) (of_side d lend rend) count near
    way left g = (g.near, g.walk)
    way right g = (g.walk.at.far, walking_lr by_number key g.walk)

    halt : (d : Side) → Since w → Stopped by_number key d first (slots wd w₀) (slots wd w) x (of_side d rtop ltop) (of_side d rend lend) (of_side d ltop rtop) (of_side d lend rend) count
        → Halted w x rtop rend ltop lend count
    halt left s p = record { since = s; walk = p }
    halt right s p = record { since = s; walk = stopped_rl by_number key p }

  module _ {w : List ℕ} {x rtop rend ltop lend count : ℕ} (g : Going w x rtop rend ltop lend count) {k : ℕ} (rk : KeyRead (slots wd w) x k) where
    -- The key is the node's.
    pub halt_equal : key ≡ k → Halted w x rtop rend ltop lend (count + 1)
    halt_equal e = halt left g.since (stop_equal by_number key g.walk rk (order_from equal _ _ e))

    module _ (d : Side) (o : Says (toward d) key k) {up : ℕ} (eu : up ≡ get_or w ((3 + wd) * x + off d) 0) where
      -- There is no child on the key's side.
      pub halt_childless : up ≡ 0 → Halted w x rtop rend ltop lend (count + 1)
      halt_childless z = halt d g.since (stop_none by_number key (way d g).1 rk (order_from (toward d) _ _ o) (link_read wd d w x up eu) z)

      module _ (p : up ≡ 0 → ⊥) {ck : ℕ} (rc : KeyRead (slots wd w) up ck) where
        seen : Child by_number key d first (slots wd w₀) (slots wd w) x up (of_side d rtop ltop) (of_side d rend lend) (of_side d ltop rtop) (of_side d lend rend) count
        seen = child by_number key (way d g).1 (link_read wd d w x up eu) p

        pub link_node : Past d key ck → Linking d w x (of_side d rtop ltop) (of_side d rend lend) (of_side d ltop rtop) (of_side d lend rend) (count + 1 + 1) (left_at w x)
        link_node q =
            record {
              since = g.since;
              walk =
                  link_plain by_number key seen rk (order_from (toward d) _ _ o) rc (not_toward d _ _ q) (length w₀) (stands_few g.since.stands);
            }

        module _ (q : Says (toward d) key ck) {w' : List ℕ} (ew : w' ≡ rotated wd (off d) (off (other d)) w x up) {y : ℕ} (ey : y ≡ get_or w' ((3 + wd) * up + off d) 0) where
          up_in : Inside wd w up
          up_in = within g.since (child_in by_number key seen)

          turned : Rotated d x up (slots wd w) (slots wd w')
          turned = rotated_at wd d w w' x up g.inside up_in ew

          turned_since : Since w'
          turned_since =
              record {
                width = g.since.width;
                stands = g.since.stands;
                kept = kept_trans g.since.kept (rotated_kept wd d w w' x up g.inside up_in ew);
              }

          pub halt_turned : y ≡ 0 → Halted w' up rtop rend ltop lend (count + 1 + 1)
          halt_turned z =
              halt d turned_since
              (stop_risen by_number key seen rk (order_from (toward d) _ _ o) rc (order_from (toward d) _ _ q) turned (link_read wd d w' up y ey) z)

          pub link_turned : (y ≡ 0 → ⊥) → Linking d w' up (of_side d rtop ltop) (of_side d rend lend) (of_side d ltop rtop) (of_side d lend rend) (count + 1 + 1) (left_at w x)
          link_turned n =
              record {
                since = turned_since;
                walk =
                    link_risen by_number key seen rk (order_from (toward d) _ _ o) rc (order_from (toward d) _ _ q) turned (link_read wd d w' up y ey) n
                    (length w₀) (stands_few g.since.stands);
              }

  module _ {d : Side} {w : List ℕ} {x gtop gend otop oend count most : ℕ} (l : Linking d w x gtop gend otop oend count most) where
    pub linking_end : 0 < gend → Inside wd w gend
    linking_end p = within l.since (end_there l.walk.at p)

    module _ {w' : List ℕ} {r nx : ℕ} (f : gend ≡ 0 → (w' ≡ w) × (r ≡ x)) (g : 0 < gend → (w' ≡ set w ((3 + wd) * gend + off d) x) × (r ≡ gtop))
        (en : nx ≡ get_or w' ((3 + wd) * x + off d) 0) where
      next : Next by_number key l.walk (hung_at wd d w w' gtop gend x r f g linking_end) (link_read wd d w' x nx en)
      next = advance by_number key l.walk _ _

      pub go_on : Going w' nx (of_side d r otop) (of_side d x oend) (of_side d otop r) (of_side d oend x) count
      go_on =
          back d
          (record {
            width = l.since.width;
            stands = l.since.stands;
            kept = kept_trans l.since.kept (hung_kept wd d w w' gtop gend x r f g linking_end);
          })
          next.walk

      pub go_less : left_at w' nx < most
      go_less = next.less (length w₀) (stands_few l.since.stands)

  module _ {w : List ℕ} {x rtop rend ltop lend count : ℕ} (h : Halted w x rtop rend ltop lend count) where
    pub halted_in : Inside wd w x
    halted_in = within h.since (place_in h.walk.at)

    pub right_end_in : 0 < rend → Inside wd w rend
    right_end_in p = within h.since (end_there h.walk.at p)

    pub left_end_in : 0 < lend → Inside wd w lend
    left_end_in p = within h.since (end_there (place_lr h.walk.at) p)

    -- The last stores.
    pub become : {l r : ℕ} → l ≡ get_or w ((3 + wd) * x + 2) 0 → r ≡ get_or w ((3 + wd) * x + 3) 0
        → {w₁ : List ℕ} {lt : ℕ} → (lend ≡ 0 → (w₁ ≡ w) × (lt ≡ l)) → (0 < lend → (w₁ ≡ set w ((3 + wd) * lend + 3) l) × (lt ≡ ltop))
        → {w₂ : List ℕ} {rt : ℕ} → (rend ≡ 0 → (w₂ ≡ w₁) × (rt ≡ r)) → (0 < rend → (w₂ ≡ set w₁ ((3 + wd) * rend + 2) r) × (rt ≡ rtop))
        → {w₃ w₄ : List ℕ} → w₃ ≡ set w₂ ((3 + wd) * x + 2) lt → w₄ ≡ set w₃ ((3 + wd) * x + 3) rt
        → Became wd w₀ w₄ x first (splay by_number key first).tree × (count ≡ (splay by_number key first).count)
    become {l} {r} el er {w₁} {lt} f₁ g₁ {w₂} {rt} f₂ g₂ {w₃} {w₄} e₃ e₄ =
        let k₁ = hung_kept wd right w w₁ ltop lend l lt f₁ g₁ left_end_in in
        let b₁ : 0 < rend → Inside wd w₁ rend = λ p. inside_kept k₁ (right_end_in p) in
        let k₂ = hung_kept wd left w₁ w₂ rtop rend r rt f₂ g₂ b₁ in
        let b₂ : Inside wd w₂ x = inside_kept (kept_trans k₁ k₂) halted_in in
        let k₃ = kept_set {w = w₂} {w' = w₃} 2 lt b₂ e₃ in
        let b₃ : Inside wd w₃ x = inside_kept k₃ b₂ in
        let k₄ = kept_set {w = w₃} {w' = w₄} 3 rt b₃ e₄ in
        let d =
        finish by_number key h.walk (link_read wd left w x l el) (link_read wd right w x r er)
        (hung_at wd right w w₁ ltop lend l lt f₁ g₁ left_end_in)
        (hung_at wd left w₁ w₂ rtop rend r rt f₂ g₂ b₁)
        (λ s es. relinked_at left w₂ {w' = w₃} lt es b₂ e₃)
        (λ s es. relinked_at right w₃ {w' = w₄} rt es b₃ e₄) in
        let k : Kept w₀ w₄ = kept_trans h.since.kept (kept_trans k₁ (kept_trans k₂ (kept_trans k₃ k₄))) in
        let n : (s : ℕ) → times s (splay by_number key first).tree ≡ times s first = λ s. splay_weighs by_number key _ first in (
          record {
            stands =
                record {
                  at = d.at;
                  holds = d.holds;
                  once = λ s. omega (arith, n s, h.since.stands.once s);
                  inside = λ s p. (let q = h.since.stands.inside s (omega (arith, n s)) in omega (arith, k.len));
                };
            only = record { kept = k; same = d.same };
          },
          d.counted,
        )
