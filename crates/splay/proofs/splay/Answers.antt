-- At a break the walk has halted (`Halted`), and where the two ways to a link meet there is one record (`Linking`).
use Rattle.std.proofs.Common.{◌+◌, arith}
use Rattle.rules.specs.Order.{left, right}
use Rattle.splay.proofs.Tagged.{stands_read}
use Rattle.splay.proofs.Turns.{Linking, Halted, left_at, go, halt_equal, halt_childless, link_node, halt_turned, link_turned, go_on, go_less, become}
use Rattle.splay.proofs.splay.Given.{Over}
use Rattle.splay.proofs.splay.Goals as goal
use Rattle.splay.proofs.splay.Goals.{After-put_link-2, After-link-node, After-link-node-else-key-k-2, then-key-ck+else-link-eq0, else-key-ck, then-ck-key+else-link-eq0-2, else-ck-key, then-key-k, else-key-k+then-key-k-2+then-child-eq0, else-key-k+then-key-k-2+else-child-eq0+then-key-ck+then-link-eq0, else-key-k+else-key-k-2+then-child-eq0-2, else-key-k+else-key-k-2+else-child-eq0-2+then-ck-key+then-link-eq0-2}

pub loop-k-init : goal.loop-k-init
loop-k-init g c = go _ _ _ _ g.met.K.Key.width c.requires

-- The two ways to the link, where the key is less.
less : (g : Over) (c : After-link-node g) →
    (let l = c.loop-k in
    let j = c.if-key-ck in
    Linking g.K.Key.WORDS c.args.a.now c.args.start c.args.key left j.a j.node l.right.top l.right.end l.left.top l.left.end (l.count + 1 + 1)
    (left_at g.K.Key.WORDS c.args.a.now c.args.start c.args.key l.a l.node))
less g c =
    let i = c.loop-k.invariant in
    elim c.if-key-ck.branch [
      | then-key-ck+else-link-eq0 w ↦
          rw (w.a-is, w.node-is)
          (link_turned _ _ _ _ i c.key_of.ensures left (omega arith) c.link-child.ensures c.if-child-eq0.false c.key_of-then-key-k-2.ensures (omega arith)
          w.rotate.ensures w.link.ensures w.if-link-eq0.false)
      | else-key-ck w ↦
          rw (w.a-is, w.node-is)
          (link_node _ _ _ _ i c.key_of.ensures left (omega arith) c.link-child.ensures c.if-child-eq0.false c.key_of-then-key-k-2.ensures (omega arith))
    ]

pub loop-k-smaller-then-key-k-2 : goal.loop-k-smaller-then-key-k-2
loop-k-smaller-then-key-k-2 g c = go_less _ _ _ _ (less g c) c.hang-right.ensures.alone c.hang-right.ensures.joined c.link-node.ensures

pub loop-k-preserved-then-key-k-2 : goal.loop-k-preserved-then-key-k-2
loop-k-preserved-then-key-k-2 g c = rw c.hang-right.ensures.last (go_on _ _ _ _ (less g c) c.hang-right.ensures.alone c.hang-right.ensures.joined c.link-node.ensures)

-- The mirror image, where it is greater.
more : (g : Over) (c : After-link-node-else-key-k-2 g) →
    (let l = c.loop-k in
    let j = c.if-ck-key in
    Linking g.K.Key.WORDS c.args.a.now c.args.start c.args.key right j.a j.node l.left.top l.left.end l.right.top l.right.end (l.count + 1 + 1)
    (left_at g.K.Key.WORDS c.args.a.now c.args.start c.args.key l.a l.node))
more g c =
    let i = c.loop-k.invariant in
    let child = c.link-child-else-key-k-2 in
    let key = c.key_of-else-key-k-2 in
    elim c.if-ck-key.branch [
      | then-ck-key+else-link-eq0-2 w ↦
          rw (w.a-is, w.node-is)
          (link_turned _ _ _ _ i c.key_of.ensures right (omega arith) child.ensures c.if-child-eq0-2.false key.ensures (omega arith)
          w.rotate-then-ck-key.ensures w.link-then-ck-key.ensures w.if-link-eq0-2.false)
      | else-ck-key w ↦
          rw (w.a-is, w.node-is)
          (link_node _ _ _ _ i c.key_of.ensures right (omega arith) child.ensures c.if-child-eq0-2.false key.ensures (omega arith))
    ]

pub loop-k-smaller : goal.loop-k-smaller
loop-k-smaller g c = go_less _ _ _ _ (more g c) c.hang-left.ensures.alone c.hang-left.ensures.joined c.link-node-else-key-k-2.ensures

pub loop-k-preserved : goal.loop-k-preserved
loop-k-preserved g c = rw c.hang-left.ensures.last (go_on _ _ _ _ (more g c) c.hang-left.ensures.alone c.hang-left.ensures.joined c.link-node-else-key-k-2.ensures)

-- The loop's five ways out.
halted : (g : Over) (c : After-put_link-2 g) →
    (let l = c.loop-k in
    let j = c.if-key-k in
    Halted g.K.Key.WORDS c.args.a.now c.args.start c.args.key j.a j.node l.right.top l.right.end l.left.top l.left.end j.count)
halted g c =
    let i = c.loop-k.invariant in
    elim c.if-key-k.branch [
      | then-key-k w ↦ rw (w.a-is, w.node-is, w.count-is) (halt_equal _ _ _ _ i c.key_of.ensures (omega arith))
      | else-key-k+then-key-k-2+then-child-eq0 w ↦
          rw (w.a-is, w.node-is, w.count-is)
          (halt_childless _ _ _ _ i c.key_of.ensures left (omega arith) w.link-child.ensures w.if-child-eq0.true)
      | else-key-k+then-key-k-2+else-child-eq0+then-key-ck+then-link-eq0 w ↦
          rw (w.a-is, w.node-is, w.count-is)
          (halt_turned _ _ _ _ i c.key_of.ensures left (omega arith) w.link-child.ensures w.if-child-eq0.false w.key_of-then-key-k-2.ensures (omega arith)
          w.rotate.ensures w.link.ensures w.if-link-eq0.true)
      | else-key-k+else-key-k-2+then-child-eq0-2 w ↦
          rw (w.a-is, w.node-is, w.count-is)
          (halt_childless _ _ _ _ i c.key_of.ensures right (omega arith) w.link-child-else-key-k-2.ensures w.if-child-eq0-2.true)
      | else-key-k+else-key-k-2+else-child-eq0-2+then-ck-key+then-link-eq0-2 w ↦
          rw (w.a-is, w.node-is, w.count-is)
          (halt_turned _ _ _ _ i c.key_of.ensures right (omega arith) w.link-child-else-key-k-2.ensures w.if-child-eq0-2.false
          w.key_of-else-key-k-2.ensures (omega arith) w.rotate-then-ck-key.ensures w.link-then-ck-key.ensures w.if-link-eq0-2.true)
    ]

pub returns : goal.returns
returns g c t h =
    rw (stands_read h) at
    (become _ _ _ _ (halted g c.before.before.before) c.link-l.ensures c.link-r.ensures c.hang-left-2.ensures.alone c.hang-left-2.ensures.joined
    c.hang-right-2.ensures.alone c.hang-right-2.ensures.joined c.put_link.ensures c.put_link-2.ensures)
