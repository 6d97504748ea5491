-- `take` writes no more than there is room for, and takes no more than the piece: feed goes no further than either.
use Rattle.std.proofs.Common.{arith}
use Rattle.rules.specs.Edition.{edition}
use Rattle.flow.proofs.Bounds.{takes_within, writes_within}
use Rattle.server.proofs.Session.take.Goals as goal

pub put-requires : goal.put-requires
put-requires g c = omega (arith, writes_within (edition _) _ _ _ c.in_ok-fed.ensures, c.feed.auto.out)

pub returns-clause-within : goal.returns-clause-within
returns-clause-within g c = takes_within (edition _) _ c.args.piece.now _ c.in_ok-fed.ensures
