-- What `bring` met at the root decides: the root goes and its slot is free, or the key is absent.
use Rattle.std.proofs.Common.{refl, arith}
use Rattle.std.proofs.lemmas.Bool.{not-true}
use Rattle.rules.specs.Edition.{edition}
use Rattle.rules.specs.Command.{remove}
use Rattle.rules.specs.Perform.{perform, removed}
use Rattle.heads.proofs.Heads.{tree_stands}
use Rattle.lookups.proofs.Present.{absent, here_inside}
use Rattle.changes.proofs.Release.{still_there, counts_few, removed_here}
use Rattle.changes.proofs.removing.remove.Goals as goal

pub returns-then-not-m : goal.returns-then-not-m
unfolding perform
returns-then-not-m g c st f =
    let k = g.K.Key.number c.args.key in
    rw c.rooted.ensures
    (absent c.requires.2 f (removed (edition g.K.Key.WORDS) k) (remove k) tt refl
    (rw c.number-wanted.ensures at (c.bring-m.ensures st.tree (tree_stands f))) (not-true _ c.if-not-m.true) c.bare.ensures)

pub entry-old-requires : goal.entry-old-requires
entry-old-requires g c = here_inside c.requires c.bring-m.ensures c.if-not-m.false

pub free_slot-h-requires-clause-inside : goal.free_slot-h-requires-clause-inside
free_slot-h-requires-clause-inside g c = still_there c.bring-m.ensures c.if-not-m.false c.without_root-t.ensures c.requires

pub overflow_cast-r : goal.overflow_cast-r
overflow_cast-r g c = omega (arith, counts_few c.bring-m.ensures c.if-not-m.false c.without_root-t.ensures c.requires)

pub overflow_add-r : goal.overflow_add-r
overflow_add-r g c = omega (arith, counts_few c.bring-m.ensures c.if-not-m.false c.without_root-t.ensures c.requires)

pub returns : goal.returns
returns g c st f =
    rw c.number-wanted.ensures at
    (removed_here c.bring-m.ensures c.if-not-m.false c.without_root-t.ensures c.requires.2 f
    c.rooted-2.ensures c.free_slot-h.ensures.filled c.free_slot-h.ensures.value c.entry-old.ensures)
