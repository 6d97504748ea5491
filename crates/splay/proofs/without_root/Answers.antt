-- The left subtree is splayed, or there is none.
use Rattle.splay.proofs.Standing.{start_in, gone_right, left_somewhere, top_in, gone}
use Rattle.splay.proofs.without_root.Goals as goal

pub link-l-requires : goal.link-l-requires
link-l-requires g c = start_in g.met.K.Key.width c.requires

pub link-r-requires : goal.link-r-requires
link-r-requires g c = start_in g.met.K.Key.width c.requires

pub returns-then-l-eq0 : goal.returns-then-l-eq0
returns-then-l-eq0 g c t h = gone_right _ c.link-l.ensures c.if-l-eq0.true c.link-r.ensures h c.requires

pub splay-s-requires : goal.splay-s-requires
splay-s-requires g c = search left_somewhere

pub put_link-requires : goal.put_link-requires
put_link-requires g c = top_in _ g.met.K.Key.width c.requires c.link-l.ensures c.if-l-eq0.false c.splay-s.ensures

pub returns : goal.returns
returns g c t h = gone _ g.met.K.Key.width c.link-l.ensures c.if-l-eq0.false c.link-r.ensures c.splay-s.ensures c.put_link.ensures h c.requires
