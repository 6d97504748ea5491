-- The lines so far are taken, each with its newline, and answered. The measure is how much room is left.
use Rattle.std.proofs.Common.{◌≡◌, ℕ, ◌-◌, ◌≤◌, length}
use Rattle.rules.specs.Edition.{edition}
use Rattle.rules.specs.Perform.{State}
use Rattle.rules.specs.Arena.{WellFormed}
use Rattle.flow.specs.Stream.{between, Stepped}
use Rattle.flow.proofs.Whole.{at_start}
use Rattle.flow.proofs.whole_lines.Given as goal

abbrev pub invariant-loop-written : goal.invariant-loop-written
invariant-loop-written g l =
    record {
      arena : length l.a ≡ length l.fn.a;
      room : length l.out ≡ length l.fn.out;
      from : l.initial.read ≤ l.read;
      within : l.read ≤ length l.input;
      fits : l.written ≤ length l.fn.out;
      so : (st : State ℕ) → WellFormed (edition g.K.Key.WORDS) l.fn.a st
          → Stepped (edition g.K.Key.WORDS) st l.fn.a (at_start l.initial.read l.initial.written) (between l.initial.read l.read l.input) l.fn.out
          l.a l.out (at_start l.read l.written);
    }

abbrev pub decreases-loop-written : goal.decreases-loop-written
decreases-loop-written g l = length l.out - l.written
