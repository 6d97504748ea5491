-- Commands by their numbers: how the set reads each, and those that are none.
use mathlib.Core.Path.{◌≡◌, refl}
use Prim.Native.Nat.{ℕ, zero, suc, ◌≤◌}
use lib.ListN.{get_or-eq_default}
use Rattle.rules.specs.Command.{numbered, command, unknown}
use Rattle.rules.specs.Command as rules
use Rattle.rules.specs.Reading.{as_set, read_as}

-- The set reads every number but 2 as it is, at value 0.
pub read_number : (n : ℕ) → (n ≡ 2 → ⊥) → (k v : ℕ) → rules.command n k 0 ≡ read_as as_set (rules.command n k v)
read_number zero h k v = refl
read_number (suc zero) h k v = refl
read_number (suc (suc zero)) h k v = absurd (h refl)
read_number (suc (suc (suc zero))) h k v = refl
read_number (suc (suc (suc (suc zero)))) h k v = refl
read_number (suc (suc (suc (suc (suc zero))))) h k v = refl
read_number (suc (suc (suc (suc (suc (suc zero)))))) h k v = refl
read_number (suc (suc (suc (suc (suc (suc (suc zero))))))) h k v = refl
read_number (suc (suc (suc (suc (suc (suc (suc (suc zero)))))))) h k v = refl
read_number (suc (suc (suc (suc (suc (suc (suc (suc (suc zero))))))))) h k v = refl
read_number (suc (suc (suc (suc (suc (suc (suc (suc (suc (suc zero)))))))))) h k v = refl
read_number (suc (suc (suc (suc (suc (suc (suc (suc (suc (suc (suc zero))))))))))) h k v = refl
read_number (suc (suc (suc (suc (suc (suc (suc (suc (suc (suc (suc (suc zero)))))))))))) h k v = refl
read_number (suc (suc (suc (suc (suc (suc (suc (suc (suc (suc (suc (suc (suc n))))))))))))) h k v = refl

-- Every number above 12 is unknown.
pub above_twelve : (n k v : ℕ) → 13 ≤ n → command n k v ≡ unknown
above_twelve n k v h = get_or-eq_default (numbered k v) unknown h
