-- The free chain of a new arena: the slots counted from a first on, each linked to the next, and the last to none.
use mathlib.Core.Path.{◌≡◌, refl}
use Prim.Native.Nat.{ℕ, zero, suc, ◌+◌, ◌≤◌, ◌<◌}
use native.Mathlib.Omega.{arith}
use Rattle.rules.specs.Edition.{Edition}
use Rattle.rules.specs.Perform.{counting}
use Rattle.rules.specs.Arena.{Slot, first_link, free_slot, Chained}

pub counting_first : (n from : ℕ) → 1 ≤ n → first_link (counting n from) ≡ suc from
unfolding counting
counting_first zero from h = absurd (omega arith)
counting_first (suc n) from h = refl

pub counting_chained : {K : Type 0} (ed : Edition K) (at : ℕ → Slot K) (n from : ℕ)
    → ((s : ℕ) → suc s < from + n → at s ≡ free_slot ed (suc (suc s)))
    → ((s : ℕ) → suc s ≡ from + n → at s ≡ free_slot ed 0)
    → Chained ed at (counting n from)
unfolding counting
counting_chained ed at zero from linked last = tt
counting_chained ed at (suc zero) from linked last = (last from (omega arith), tt)
counting_chained ed at (suc (suc n)) from linked last = (
  linked from (omega arith),
  counting_chained ed at (suc n) (suc from) (λ s h. linked s (omega arith)) (λ s e. last s (omega arith)),
)
