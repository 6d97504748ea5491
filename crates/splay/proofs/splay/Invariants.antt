-- At the loop's head the walk goes on (`Going`). The measure is the size of the tree at the node.
use Rattle.splay.proofs.Turns.{Going, left_at}
use Rattle.splay.proofs.splay.Given as goal

abbrev pub invariant-loop-k : goal.invariant-loop-k
invariant-loop-k g l =
    Going g.K.Key.WORDS l.fn.a l.fn.start l.key l.a l.node l.right.top l.right.end l.left.top l.left.end l.count

abbrev pub decreases-loop-k : goal.decreases-loop-k
decreases-loop-k g l = left_at g.K.Key.WORDS l.fn.a l.fn.start l.key l.a l.node
