-- A turn rotates the child on the side over the node.
use Rattle.splay.proofs.Raise.{raise_begin, raise_in, up_in, raise_on, raise_less, raise_stop}
use Rattle.splay.proofs.raise_end.Goals as goal

pub loop-side-init : goal.loop-side-init
loop-side-init g c = raise_begin _ g.met.K.Key.width c.requires

pub link-up-requires : goal.link-up-requires
link-up-requires g c = search raise_in

pub rotate-requires : goal.rotate-requires
rotate-requires g c = search (raise_in, up_in)

pub loop-side-preserved : goal.loop-side-preserved
loop-side-preserved g c = raise_on c.loop-side.invariant.1 c.link-up.ensures c.if-up-eq0.false c.rotate.ensures

pub loop-side-smaller : goal.loop-side-smaller
loop-side-smaller g c = search raise_less

pub returns : goal.returns
returns g c = search raise_stop
