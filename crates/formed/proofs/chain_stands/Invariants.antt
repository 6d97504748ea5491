-- The answer for the chain from y, of `left` slots, is the answer.
use Rattle.std.proofs.Common.{Bool}
use Rattle.rules.specs.Edition.{edition}
use Rattle.formed.specs.Verdict.{Tells, ChainStands}
use Rattle.formed.proofs.chain_stands.Given as goal

abbrev pub invariant-loop-y : goal.invariant-loop-y
invariant-loop-y g l =
    let ed = edition g.K.Key.WORDS in
    (r : Bool) → Tells (ChainStands ed l.a l.n l.y l.left) r → Tells (ChainStands ed l.a l.n l.first l.free) r

abbrev pub decreases-loop-y : goal.decreases-loop-y
decreases-loop-y g l = l.left
