-- What `bring` met at the root decides: the root's value is replaced, or the key is absent.
use Rattle.std.proofs.Common.{refl}
use Rattle.std.proofs.lemmas.Bool.{not-true, not-false}
use Rattle.rules.specs.Edition.{edition}
use Rattle.rules.specs.Command.{write}
use Rattle.rules.specs.Perform.{perform, replaced}
use Rattle.heads.proofs.Heads.{tree_stands}
use Rattle.lookups.proofs.Present.{absent, is_here, here_inside, root_at, written_here}
use Rattle.lookups.proofs.lookup.write.Goals as goal

pub returns-then-not-m : goal.returns-then-not-m
unfolding perform
returns-then-not-m g c st f =
    rw c.rooted-h.ensures
    (absent g.met.K.Key.width f (replaced (edition g.K.Key.WORDS) c.args.value) (write _ c.args.value) tt refl (rw c.number.ensures at (c.bring-m.ensures st.tree (tree_stands f)))
    (not-true _ c.if-not-m.true) c.bare.ensures)

pub entry-r-requires : goal.entry-r-requires
entry-r-requires g c = here_inside c.requires c.bring-m.ensures c.if-not-m.false

pub put_value-requires : goal.put_value-requires
put_value-requires g c = here_inside c.requires c.bring-m.ensures c.if-not-m.false

pub returns : goal.returns
returns g c st f =
    let p = is_here (rw c.number.ensures at (c.bring-m.ensures st.tree (tree_stands f))) (not-false _ c.if-not-m.false) in
    rw c.rooted-h.ensures (written_here g.met.K.Key.width f p (c.entry-r.ensures p.e.slot (root_at p.root)) c.args.value _ c.put_value.ensures)
