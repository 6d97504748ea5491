-- The words so far are those of the line.
use Rattle.line.proofs.Words.{Far}
use Rattle.line.proofs.read_key.Given as goal

abbrev pub invariant-loop-i : goal.invariant-loop-i
invariant-loop-i g l = Far l.line l.words l.i
