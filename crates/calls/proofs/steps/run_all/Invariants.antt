-- What `run_all` keeps: the commands so far are done, and their answers stand at the front. The measure is what is left of the list.
use Rattle.std.proofs.Common.{length, ◌+◌, ◌<◌, ◌≤◌}
use Rattle.keys.specs.Told.{reading}
use Rattle.calls.proofs.Running.{Running}
use Rattle.calls.proofs.steps.run_all.Given as goal

abbrev pub invariant-rest : goal.invariant-rest
invariant-rest g l =
    record {
      running : Running g.K.Key.WORDS (reading l.by) l.list l.fn.a l.fn.answers l.a l.rest l.answers l.at;
      left : 0 < length l.rest → (2 + g.K.Key.WORDS ≤ length l.rest) × (l.at + (3 + g.K.Key.WORDS) ≤ length l.answers);
    }

abbrev pub decreases-rest : goal.decreases-rest
decreases-rest g l = length l.rest
