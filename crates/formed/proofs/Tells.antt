-- Reading a test's answer, for callers that branch on it; and how a question's answer follows from that of another.
use mathlib.Core.Bool.{Bool, true, false}
use mathlib.Core.Path.{◌≡◌, refl}
use Prim.Native.Nat.{ℕ}
use native.Mathlib.Omega.{arith}
use lib.Dec.{eqb}
use borrow.Author.Tests.{eqb-true, eqb-false}
use Rattle.formed.specs.Verdict.{Tells, there, nowhere}

module _ {A : Type 0} {P : A → Type 0} where
  -- It said true: here is one.
  pub found : {r : Bool} → Tells P r → r ≡ true → (a : A) × P a
  found (there a p) e = (a, p)
  found (nowhere no_one) e = let z : ◌≡◌ {A = ℕ} 0 1 = cc in absurd (omega arith)

  -- Two questions have one answer.
  pub same_answer : {B : Type 0} {Q : B → Type 0} {r : Bool} → ((a : A) → P a → (b : B) × Q b) → ((b : B) → Q b → (a : A) × P a)
      → Tells P r → Tells Q r
  same_answer f g (there a p) = let (b, q) = f a p in there b q
  same_answer f g (nowhere no_one) = nowhere (λ b q. let (a, p) = g b q in no_one a p)

  -- There is one just where two numbers are equal.
  pub where_equal : (i j : ℕ) → (i ≡ j → (a : A) × P a) → ((a : A) → P a → i ≡ j) → Tells P (eqb i j)
  where_equal i j f g = by (eqb i j) refl
    where
      by : (b : Bool) → eqb i j ≡ b → Tells P b
      by true e = let (a, p) = f (eqb-true i j e) in there a p
      by false e = nowhere (λ a p. eqb-false i j e (g a p))
