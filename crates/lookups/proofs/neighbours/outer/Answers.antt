-- The entry that the walk's link leads to is told, or that there is none.
use Rattle.lookups.proofs.Nearest.{found_in, found_says, absent_says}
use Rattle.lookups.proofs.neighbours.outer.Goals as goal

pub returns-in-None : goal.returns-in-None
returns-in-None g c t h = absent_says (c.outermost.ensures t h) c.in-None.is c.bare.ensures

pub entry-requires : goal.entry-requires
entry-requires g c = let (t, h) = c.requires in found_in (c.outermost.ensures t h) c.in-Some.is

pub returns-in-Some : goal.returns-in-Some
returns-in-Some g c t h = found_says (c.outermost.ensures t h) c.in-Some.is c.entry.ensures
