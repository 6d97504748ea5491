-- A turn reads one word more of the key.
use Rattle.std.proofs.Common.{rules}
use Rattle.line.proofs.Words.{farther}
use Rattle.line.proofs.read_key.Goals as goal

pub loop-i-preserved : goal.loop-i-preserved
loop-i-preserved g c = farther g.met.K.Key.width _ _ (search rules) (search rules) c.loop-i.invariant
