-- `hit` compares two slots: 1 where they are the same, otherwise 0.
use mathlib.Core.Bool.{Bool, true, false}
use mathlib.Core.Logic.{◌⊎◌, inl, inr}
use mathlib.Core.Path.{◌≡◌, refl}
use Prim.Native.Nat.{ℕ}
use native.Mathlib.Omega.{arith}
use lib.Dec.{eqb}
use borrow.Author.Tests.{eq-eqb, ne_eqb, eqb-true, eqb-false}
use Rattle.rules.specs.Tree.{hit}

pub hit_same : (s : ℕ) → hit s s ≡ 1
unfolding hit
hit_same s = rw (eq-eqb s s refl)

pub hit_other : (x s : ℕ) → (x ≡ s → ⊥) → hit x s ≡ 0
unfolding hit
hit_other x s h = rw (ne_eqb x s h)

pub hit_cases : (x s : ℕ) → ((x ≡ s) × (hit x s ≡ 1)) ⊎ ((x ≡ s → ⊥) × (hit x s ≡ 0))
unfolding hit
hit_cases x s = by (eqb x s) refl
  where
    by : (b : Bool) → eqb x s ≡ b → ((x ≡ s) × (hit x s ≡ 1)) ⊎ ((x ≡ s → ⊥) × (hit x s ≡ 0))
    by true e = inl (eqb-true x s e, rw e)
    by false e = inr (eqb-false x s e, rw e)

-- What is not hit is another.
pub hit_ne : (x s : ℕ) → hit x s ≡ 0 → x ≡ s → ⊥
hit_ne x s h e = let q : hit s s ≡ 0 = rw e at h in omega (arith, hit_same s)
