-- The splay and the walk in the splayed tree come to what the rules say of a neighbour.
use Rattle.std.proofs.Common.{arith}
use Rattle.node.specs.Stands.{side_of}
use Rattle.heads.proofs.Heads.{tree_stands}
use Rattle.lookups.proofs.Present.{tree_few}
use Rattle.lookups.proofs.Nearest.{found_in, found_says, absent_says, nobody, sought_few, sought_obeyed}
use Rattle.lookups.proofs.neighbours.neighbour.Goals as goal

pub returns-then-root-eq0 : goal.returns-then-root-eq0
returns-then-root-eq0 g c st f = nobody (side_of c.args.side) (g.K.Key.number c.args.key) f c.if-root-eq0.true c.bare.ensures

-- The count is small.
pub overflow_add-n : goal.overflow_add-n
overflow_add-n g c =
    let (st, f, v) = c.requires in
    let s = rw c.number.ensures at (c.splay-s.ensures st.tree (tree_stands f)) in
    omega (arith, sought_few st.tree (tree_few f).few s.1 (c.seek-f.ensures _ s.0.stands))

pub overflow_cast-n : goal.overflow_cast-n
overflow_cast-n g c =
    let (st, f, v) = c.requires in
    let s = rw c.number.ensures at (c.splay-s.ensures st.tree (tree_stands f)) in
    omega (arith, sought_few st.tree (tree_few f).few s.1 (c.seek-f.ensures _ s.0.stands))

-- The link that was found leads into the words.
pub entry-requires : goal.entry-requires
entry-requires g c =
    let (st, f, v) = c.requires in
    let s = rw c.number.ensures at (c.splay-s.ensures st.tree (tree_stands f)) in
    found_in (c.seek-f.ensures _ s.0.stands).leads c.in-Some.is

pub returns-in-None : goal.returns-in-None
returns-in-None g c st f =
    let s = rw c.number.ensures at (c.splay-s.ensures st.tree (tree_stands f)) in
    let u = c.seek-f.ensures _ s.0.stands in
    rw c.rooted-h.ensures (sought_obeyed g.met.K.Key.width f s u (absent_says u.leads c.in-None.is c.bare-in-None.ensures))

pub returns-in-Some : goal.returns-in-Some
returns-in-Some g c st f =
    let s = rw c.number.ensures at (c.splay-s.ensures st.tree (tree_stands f)) in
    let u = c.seek-f.ensures _ s.0.stands in
    rw c.rooted-h.ensures (sought_obeyed g.met.K.Key.width f s u (found_says u.leads c.in-Some.is c.entry.ensures))
