-- What `bring` met at the root decides: its value is replaced, or there is no room, or a new node grows.
use Rattle.std.proofs.Common.{◌≡◌, arith, rules}
use Rattle.heads.proofs.Heads.{tree_stands}
use Rattle.lookups.proofs.Present.{is_here, root_at, root_inside}
use Rattle.changes.proofs.Added.{insert_here, not_here, insert_full, insert_new}
use Rattle.changes.proofs.adding.insert.Goals as goal

-- The root's words are there.
pub entry-r-requires : goal.entry-r-requires
entry-r-requires g c =
    let (st, f, o, v) = c.requires in
    root_inside (is_here (rw c.number.ensures at (c.bring-m.ensures st.tree (tree_stands f))) c.if-m.true).root v

pub put_value-requires : goal.put_value-requires
put_value-requires g c =
    let (st, f, o, v) = c.requires in
    root_inside (is_here (rw c.number.ensures at (c.bring-m.ensures st.tree (tree_stands f))) c.if-m.true).root v

pub returns-then-m : goal.returns-then-m
returns-then-m g c st f o =
    let h = is_here (rw c.number.ensures at (c.bring-m.ensures st.tree (tree_stands f))) c.if-m.true in
    rw c.rooted-h.ensures (insert_here c.requires.3 f _ h (c.entry-r.ensures h.e.slot (root_at h.root)) c.put_value.ensures)

pub returns-then-h-most : goal.returns-then-h-most
returns-then-h-most g c st f o =
    let n : c.args.head.size ≡ st.slots = cc in
    rw c.rooted-h.ensures (insert_full c.requires.3 f _ (rw c.number.ensures at (c.bring-m.ensures st.tree (tree_stands f))) c.if-m.false n c.bare.ensures)

pub grow-g-requires-clause-somehow : goal.grow-g-requires-clause-somehow
grow-g-requires-clause-somehow g c =
    let (st, f, o, v) = c.requires in
    rw c.rooted-h.ensures (_, not_here v f (rw c.number.ensures at (c.bring-m.ensures st.tree (tree_stands f))) c.if-m.false, v)

pub returns : goal.returns
returns g c st f o =
    let n : c.args.head.size ≡ st.slots → ⊥ = grind arith in
    insert_new c.requires.3 f (rw c.number.ensures at (c.bring-m.ensures st.tree (tree_stands f))) c.if-m.false n
    (rw c.rooted-h.ensures at c.grow-g.ensures) (search rules)
