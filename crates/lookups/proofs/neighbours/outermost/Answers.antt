-- The walk stands on the link that it came to; where no child is left, its last link is the answer.
use Rattle.lookups.proofs.Walks.{walk_in, outermost_begin, outermost_on, outermost_less, outermost_stop}
use Rattle.lookups.proofs.neighbours.outermost.Goals as goal

pub loop-x-init : goal.loop-x-init
loop-x-init g c = outermost_begin g.met.K.Key.width c.requires

pub link-x-requires : goal.link-x-requires
link-x-requires g c = search walk_in

pub loop-x-smaller : goal.loop-x-smaller
loop-x-smaller g c = search outermost_less

pub loop-x-preserved : goal.loop-x-preserved
loop-x-preserved g c = search outermost_on

pub returns : goal.returns
returns g c = search outermost_stop
