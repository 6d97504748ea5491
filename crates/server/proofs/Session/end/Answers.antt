-- `end` writes no more than there is room for: finish goes no further.
use Rattle.std.proofs.Common.{arith}
use Rattle.rules.specs.Edition.{edition}
use Rattle.flow.proofs.Bounds.{writes_within}
use Rattle.server.proofs.Session.end.Goals as goal

pub put-requires : goal.put-requires
put-requires g c = omega (arith, writes_within (edition _) _ _ _ c.in-Ok.ensures, c.finish.auto.out)
