-- What callers of feed go by: it takes no more than its input, writes no more than its buffer, and no second outcome fits.
-- Assumes nothing.
use mathlib.Core.List.{List}
use mathlib.Core.Path.{◌≡◌}
use Prim.Native.Nat.{ℕ, ◌≤◌}
use native.Mathlib.Omega.{arith}
use lib.ListN.{length, length-append}
use Rattle.std.specs.Prelude.{IfOk}
use Rattle.rules.specs.Edition.{Edition}
use Rattle.rules.specs.Calls.{well_formed, damaged}
use Rattle.rules.proofs.WellFormed.{one_outcome}
use Rattle.flow.specs.declared.Pending.{Pending}
use Rattle.flow.specs.declared.Fed.{Fed}
use Rattle.flow.specs.Stream.{Given, fed_with, Feeds}
use Rattle.flow.proofs.Pieces.{taking_within}

module _ {K : Type 0} (ed : Edition K) where
  pub takes_within : (p : Pending) (input out : List ℕ) {w : List ℕ} {given : Given} → Feeds ed p input out w given
      → IfOk given.returned (λ (fed : Fed). fed.read ≤ length input)
  unfolding fed_with
  takes_within p input out (well_formed st f e) = rw e (taking_within ed (length out) input)
  takes_within p input out (damaged no_state e) = rw e tt

  pub writes_within : (p : Pending) (input out : List ℕ) {w : List ℕ} {given : Given} → Feeds ed p input out w given
      → IfOk given.returned (λ (fed : Fed). fed.written ≤ length given.out)
  unfolding fed_with
  writes_within p input out (well_formed st f e) = rw e (simp length-append (omega arith))
  writes_within p input out (damaged no_state e) = rw e tt

  pub one_outcome_fed : (p : Pending) (input out w : List ℕ) (given given' : Given)
      → Feeds ed p input out w given → Feeds ed p input out w given'
      → given ≡ given'
  one_outcome_fed p input out w given given' g g' = one_outcome ed g g'
