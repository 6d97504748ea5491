-- The first free slot holds the new node. It is the root alone where there is no tree, and else beside the old root.
use Rattle.std.proofs.Common.{arith}
use Rattle.changes.proofs.Grow.{both_in, grew_first, grew_left, grew_right}
use Rattle.changes.proofs.adding.grow.Goals as goal

pub returns-then-root-eq0 : goal.returns-then-root-eq0
returns-then-root-eq0 g c st f n =
    grew_first c.requires.somehow.2 f c.requires.free_nonzero c.link-next.ensures c.fill.ensures c.if-root-eq0.true

pub key_of-requires : goal.key_of-requires
key_of-requires g c = (both_in c.requires.somehow c.requires.free_nonzero c.fill.ensures c.if-root-eq0.false).0

pub new_root-requires : goal.new_root-requires
new_root-requires g c = both_in c.requires.somehow c.requires.free_nonzero c.fill.ensures c.if-root-eq0.false

pub returns-then-number : goal.returns-then-number
returns-then-number g c st f n =
    grew_left c.requires.somehow.2 f c.requires.free_nonzero c.link-next.ensures c.fill.ensures c.if-root-eq0.false c.key_of.ensures
    (omega arith) c.new_root.ensures

pub new_root-requires-2 : goal.new_root-requires-2
new_root-requires-2 g c = both_in c.requires.somehow c.requires.free_nonzero c.fill.ensures c.if-root-eq0.false

pub returns : goal.returns
returns g c st f n =
    grew_right c.requires.somehow.2 f c.requires.free_nonzero c.link-next.ensures c.fill.ensures c.if-root-eq0.false c.key_of.ensures n
    (omega arith) c.new_root-2.ensures
