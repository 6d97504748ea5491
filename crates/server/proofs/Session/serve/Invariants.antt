-- `serve` ends: each turn takes some of the rest.
use Rattle.std.proofs.Common.{length}
use Rattle.server.proofs.Session.serve.Given as goal

abbrev pub decreases-loop-rest : goal.decreases-loop-rest
decreases-loop-rest g l = length l.rest
