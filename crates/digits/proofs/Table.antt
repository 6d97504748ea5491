-- A table follows a rule, proved at all of its entries by one test that antt computes, one entry after the other.
-- Assumes nothing.
use mathlib.Core.Path.{◌≡◌, ◌∙◌, ap, sym}
use mathlib.Core.Bool.{Bool, true, false, ◌&&◌}
use mathlib.Core.List.{List, [], ◌∷◌}
use Prim.Native.Nat.{ℕ, zero, suc, ◌+◌, ◌<◌}
use native.Mathlib.Nat.{add-zero, zero-add, add-suc, suc-add, le_of_suc-le-suc, not-suc-le-zero}
use lib.Dec.{T, eqb, eqb→eq}
use lib.ListN.{length, get_or}

first : (p q : Bool) → T (p && q) → T p
first true q t = tt
first false q t = t

second : (p q : Bool) → T (p && q) → T q
second true q t = t
second false q t = absurd t

-- Each entry is what the rule says of its place, counted from i.
abbrev pub follows : (ℕ → ℕ) → ℕ → List ℕ → Bool
follows rule i [] = true
follows rule i (x ∷ xs) = eqb x (rule i) && follows rule (suc i) xs

module _ (rule : ℕ → ℕ) where
  from : (xs : List ℕ) (i : ℕ) → T (follows rule i xs) → (k : ℕ) → k < length xs → get_or xs k 0 ≡ rule (i + k)
  from [] i t k h = absurd (not-suc-le-zero h)
  from (x ∷ xs) i t zero h = eqb→eq x (rule i) (first (eqb x (rule i)) (follows rule (suc i) xs) t) ∙ ap rule (sym (add-zero i))
  from (x ∷ xs) i t (suc k) h =
      from xs (suc i) (second (eqb x (rule i)) (follows rule (suc i) xs) t) k (le_of_suc-le-suc h)
      ∙ ap rule (suc-add i k ∙ sym (add-suc i k))

  pub at : (xs : List ℕ) → T (follows rule 0 xs) → (k : ℕ) → k < length xs → get_or xs k 0 ≡ rule k
  at xs t k h = from xs 0 t k h ∙ ap rule (zero-add k)
