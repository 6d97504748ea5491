-- The step to the next slot.
use Rattle.std.proofs.Common.{arith}
use Rattle.formed.proofs.Chain.{goes_on}
use Rattle.formed.proofs.chain_stands.Goals as goal

pub loop-y-preserved : goal.loop-y-preserved
loop-y-preserved g c = grind (arith, goes_on)
