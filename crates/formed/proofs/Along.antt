-- The walk in the words of an arena, with the links that wait in scratch words: at each step the answer is no, or that of what is left to
-- be asked.
use mathlib.Core.Bool.{Bool, false}
use mathlib.Core.List.{List, [], ◌∷◌}
use mathlib.Core.Path.{◌≡◌, refl, ap}
use Prim.Native.Nat.{ℕ, zero, suc, pred, ◌+◌, ◌-◌, ◌*◌, ◌≤◌, ◌<◌}
use native.Mathlib.Numerals.{add-one, sub-one}
use native.Mathlib.Omega.{arith}
use lib.Dec.{eqb}
use lib.ListN.{length, get_or, set}
use lib.Seq.{get_or-set_same, get_or-set_other}
use Rattle.rules.specs.Order.{left, right, toward}
use Rattle.rules.specs.Edition.{edition, Width}
use Rattle.rules.specs.Tree.{Tree}
use Rattle.rules.specs.Arena.{Slot, slot_at}
use Rattle.rules.proofs.Order.{edition_lawful, order_from, order_says}
use Rattle.node.proofs.Words.{link_word}
use Rattle.formed.specs.Verdict.{Tells, nowhere, TreeStands}
use Rattle.formed.proofs.Tells.{same_answer, where_equal}
use Rattle.formed.proofs.Walk.{Rest, down, down_back, must_be, up, must_climb, up_back, all_met, must_be_all, whole_of, tree_of}

-- The first p scratch words are the links that wait, the next of them last.
abbrev pub pile : List ℕ → ℕ → List ℕ
pile work zero = []
pile work (suc p) = get_or work p 0 ∷ pile work p

pile_length : (work : List ℕ) (p : ℕ) → length (pile work p) ≡ p
pile_length work zero = refl
pile_length work (suc p) = ap suc (pile_length work p)

-- A word stored above them leaves them.
pile_set : (work : List ℕ) (j v p : ℕ) → p ≤ j → pile (set work j v) p ≡ pile work p
pile_set work j v zero h = refl
pile_set work j v (suc p) h = rw (get_or-set_other work j p v 0 (omega arith), pile_set work j v p (omega arith))

module _ (wd : ℕ) (w : List ℕ) (n size : ℕ) where
  abbrev slot : ℕ → Slot ℕ
  slot = slot_at (edition wd) w

  -- What is left to be asked at the link x, with p links that wait, so many slots met and the last key met.
  abbrev pub Asked : List ℕ → ℕ → ℕ → ℕ → ℕ → Tree ℕ × List ℕ → Type 0
  Asked work x p = Rest (edition wd) slot n size x (pile work p)

  pub starts : (root : ℕ) (r : Bool) → Width wd → Tells (Rest (edition wd) slot n size root [] 0 0) r
      → Tells (TreeStands (edition wd) w n root size) r
  starts root r h = same_answer (tree_of _ _ _ _ _ _ (edition_lawful h)) (whole_of _ _ _ _ _ _)

  module _ (work : List ℕ) where
    -- At a slot.
    pub goes_down : (x p count last : ℕ) (r : Bool) → 0 < x → p < length work
        → Tells (Asked (set work p x) (get_or w ((3 + wd) * x + 2) 0) (p + 1) count last) r → Tells (Asked work x p count last) r
    goes_down zero p count last r h b t = absurd (omega arith)
    goes_down (suc s) p count last r h b t =
        same_answer (down_back _ _ _ _) (down _ _ _ _)
        (rw (link_word left wd w (suc s) s refl, add-one, get_or-set_same work p (suc s) 0 b, pile_set work p (suc s) p (omega arith)) at t)

    pub stops_down : (x p count last : ℕ) → 0 < x → (x ≤ n → count + p < size → ⊥) → Tells (Asked work x p count last) false
    stops_down zero p count last h f = absurd (omega arith)
    stops_down (suc s) p count last h f =
        nowhere (λ g k. let (low, many) = must_be _ _ _ _ g k in f (omega arith) (omega (arith, pile_length work p)))

    -- The next of p links that wait, and its key.
    abbrev next : ℕ → ℕ
    next p = get_or work (p - 1) 0

    abbrev next_key : ℕ → ℕ
    next_key p = (slot (next p - 1)).key

    -- At no slot, where one waits.
    pub goes_up : (x p count last : ℕ) (r : Bool) → x ≡ 0 → 0 < p → Width wd → 0 < next p → next p ≤ n → (0 < count → last < next_key p)
        → Tells (Asked work (get_or w ((3 + wd) * next p + 3) 0) (p - 1) (count + 1) (next_key p)) r → Tells (Asked work x p count last) r
    goes_up x zero count last r e h wide real low climbs t = absurd (omega arith)
    goes_up x (suc j) count last r e h wide real low climbs t =
        let q : get_or work j 0 ≡ suc (pred (get_or work j 0)) = omega (arith, simp sub-one at real) in
        let low : pred (get_or work j 0) < n = omega (arith, simp sub-one at low) in
        let climbs = λ (b : 0 < count). order_from (toward left) last _ (simp sub-one at (climbs b)) in
        rw (e, q)
        (same_answer (up_back _ _ _ _ (edition_lawful wide) low climbs) (up _ _ _ _)
        (rw (link_word right wd w _ _ q, add-one) at (simp sub-one at t)))

    pub stops_up : (x p count last : ℕ) → x ≡ 0 → 0 < p → 0 < next p → 0 < count → next_key p ≤ last
        → Tells (Asked work x p count last) false
    stops_up x zero count last e h real b k = absurd (omega arith)
    stops_up x (suc j) count last e h real b k =
        let q : get_or work j 0 ≡ suc (pred (get_or work j 0)) = omega (arith, simp sub-one at real) in
        rw (e, q) (nowhere (λ g u. omega (arith, simp sub-one at k, order_says (toward left) last _ (must_climb _ _ _ _ g u b))))

    -- At no slot, where none waits.
    pub ends : (x p count last : ℕ) → x ≡ 0 → p ≡ 0 → Tells (Asked work x p count last) (eqb count size)
    ends x p count last e f = rw (e, f) (where_equal count size (all_met _ _ _ _) (must_be_all _ _ _ _))

-- What the check of `tree_stands` is given; at the step to the left `goes_down` is cited.
pub ruleset steps = (starts, stops_down, goes_up, stops_up, ends)
