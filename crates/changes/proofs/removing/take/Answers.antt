-- The end has risen to the root, and goes: what hangs on its far side is the tree that is left.
use Rattle.node.specs.Stands.{side_of}
use Rattle.heads.proofs.Heads.{tree_stands}
use Rattle.changes.proofs.Ends.{taken_here, end_there}
use Rattle.changes.proofs.removing.take.Goals as goal

-- The end's words are there.
pub link-far-requires : goal.link-far-requires
link-far-requires g c = end_there (side_of c.args.side) c.if-root-eq0.false c.raise_end-x.ensures c.requires

pub entry-r-requires : goal.entry-r-requires
entry-r-requires g c = end_there (side_of c.args.side) c.if-root-eq0.false c.raise_end-x.ensures c.requires

pub free_slot-h-requires-clause-inside : goal.free_slot-h-requires-clause-inside
free_slot-h-requires-clause-inside g c = end_there (side_of c.args.side) c.if-root-eq0.false c.raise_end-x.ensures c.requires

pub returns : goal.returns
returns g c st f =
    taken_here (side_of c.args.side) f c.if-root-eq0.false (c.raise_end-x.ensures st.tree (tree_stands f)) c.requires.2
    c.other.ensures c.link-far.ensures c.rooted.ensures c.free_slot-h.ensures.filled c.free_slot-h.ensures.value c.entry-r.ensures
