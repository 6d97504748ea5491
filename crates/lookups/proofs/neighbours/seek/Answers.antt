-- The walk stands on the link that it came to; where no child is left, the best of its nodes is the answer.
use Rattle.std.proofs.Common.{arith}
use Rattle.lookups.proofs.Walks.{walk_in, seek_begin, seek_few, seek_near, seek_near_less, seek_far, seek_far_less, seek_stop}
use Rattle.lookups.proofs.neighbours.seek.Goals as goal

pub loop-x-init : goal.loop-x-init
loop-x-init g c = seek_begin g.met.K.Key.width c.requires

pub overflow_add-count : goal.overflow_add-count
overflow_add-count g c = omega (arith, seek_few c.loop-x.invariant c.requires, c.well_formed)

pub key_of-requires : goal.key_of-requires
key_of-requires g c = search walk_in

pub link-x-requires : goal.link-x-requires
link-x-requires g c = search walk_in

pub loop-x-smaller-then-beyond : goal.loop-x-smaller-then-beyond
loop-x-smaller-then-beyond g c = search seek_near_less

pub loop-x-preserved-then-beyond : goal.loop-x-preserved-then-beyond
loop-x-preserved-then-beyond g c = search seek_near

pub link-x-requires-else-beyond : goal.link-x-requires-else-beyond
link-x-requires-else-beyond g c = search walk_in

pub loop-x-smaller : goal.loop-x-smaller
loop-x-smaller g c = search seek_far_less

pub loop-x-preserved : goal.loop-x-preserved
loop-x-preserved g c = search seek_far

pub returns : goal.returns
returns g c = search seek_stop
