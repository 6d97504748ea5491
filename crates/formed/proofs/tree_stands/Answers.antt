-- The step to the left.
use Rattle.std.proofs.Common.{arith}
use Rattle.std.proofs.lemmas.Grind.{common_steps}
use Rattle.formed.proofs.Along.{goes_down}
use Rattle.formed.proofs.tree_stands.Goals as goal

pub loop-x-preserved-then-x-ne0 : goal.loop-x-preserved-then-x-ne0
loop-x-preserved-then-x-ne0 g c = grind (arith, common_steps, goes_down)
