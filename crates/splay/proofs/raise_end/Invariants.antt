-- At the loop's head so much of the side was raised (`Raising`). The measure is the size of what is left on it.
use Rattle.std.proofs.Common.{ℕ}
use Rattle.rules.specs.Tree.{Tree, size}
use Rattle.node.specs.Stands.{side_of}
use Rattle.splay.proofs.Turns.{read_off}
use Rattle.splay.proofs.Raise.{child, Raising}
use Rattle.splay.proofs.raise_end.Given as goal

abbrev pub invariant-loop-side : goal.invariant-loop-side
invariant-loop-side g l =
    (near : Tree ℕ) × Raising g.K.Key.WORDS (side_of l.fn.side) (read_off g.K.Key.WORDS l.fn.a l.fn.start) l.fn.a l.a l.cur near

abbrev pub decreases-loop-side : goal.decreases-loop-side
decreases-loop-side g l = size (child (side_of l.fn.side) (read_off g.K.Key.WORDS l.a l.cur))
