-- The walk goes down from the root; the tree that is left gets smaller.
use Rattle.rules.specs.Tree.{size}
use Rattle.node.specs.Stands.{side_of}
use Rattle.splay.proofs.Turns.{read_off}
use Rattle.lookups.proofs.Walks.{Walk, Seeking}
use Rattle.lookups.proofs.neighbours.seek.Given as goal

abbrev pub invariant-loop-x : goal.invariant-loop-x
invariant-loop-x g l =
    Walk g.K.Key.WORDS l.a (Seeking g.K.Key.WORDS (side_of l.side) (g.K.Key.number l.key) (read_off g.K.Key.WORDS l.a l.root) l.count) l.x l.best

abbrev pub decreases-loop-x : goal.decreases-loop-x
decreases-loop-x g l = size (read_off g.K.Key.WORDS l.a l.x)
