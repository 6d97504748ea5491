-- What `bring` met at the root decides: the root's entry is told, or the key is absent.
use Rattle.std.proofs.Common.{refl}
use Rattle.std.proofs.lemmas.Bool.{not-true, not-false}
use Rattle.rules.specs.Edition.{edition}
use Rattle.rules.specs.Command.{get}
use Rattle.rules.specs.Perform.{perform, found}
use Rattle.heads.proofs.Heads.{tree_stands}
use Rattle.lookups.proofs.Present.{absent, is_here, here_inside, root_at, found_here}
use Rattle.lookups.proofs.lookup.get.Goals as goal

pub returns-then-not-m : goal.returns-then-not-m
unfolding perform
returns-then-not-m g c st f =
    rw c.rooted-h.ensures
    (absent g.met.K.Key.width f (found (edition g.K.Key.WORDS)) (get _) tt refl (rw c.number.ensures at (c.bring-m.ensures st.tree (tree_stands f))) (not-true _ c.if-not-m.true)
    c.bare.ensures)

pub entry-requires : goal.entry-requires
entry-requires g c = here_inside c.requires c.bring-m.ensures c.if-not-m.false

pub returns : goal.returns
returns g c st f =
    let p = is_here (rw c.number.ensures at (c.bring-m.ensures st.tree (tree_stands f))) (not-false _ c.if-not-m.false) in
    rw c.rooted-h.ensures (found_here g.met.K.Key.width f p (c.entry.ensures p.e.slot (root_at p.root)))
