-- What the loop has done up to a place in the input. The measure is how many bytes of the input are left.
use Rattle.std.proofs.Common.{◌≡◌, ℕ, ◌-◌, length}
use Rattle.rules.specs.Edition.{edition}
use Rattle.rules.specs.Perform.{State}
use Rattle.rules.specs.Arena.{WellFormed}
use Rattle.flow.proofs.Onward.{Reached}
use Rattle.flow.proofs.serve.Given as goal

abbrev pub invariant-loop-fed : goal.invariant-loop-fed
invariant-loop-fed g l =
    record {
      arena : length l.a ≡ length l.fn.a;
      room : length l.out ≡ length l.fn.out;
      so : (st : State ℕ) → WellFormed (edition g.K.Key.WORDS) l.fn.a st
          → Reached (edition g.K.Key.WORDS) l.fn.pending l.input l.fn.out l.fn.a st l.a l.out l.fed;
    }

abbrev pub decreases-loop-fed : goal.decreases-loop-fed
decreases-loop-fed g l = length l.input - l.fed.read
