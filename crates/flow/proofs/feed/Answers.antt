-- The check decides: here the arena is well formed.
use Rattle.std.proofs.Common.{ap}
use Rattle.rules.specs.Calls.{well_formed}
use Rattle.formed.proofs.Tells.{found}
use Rattle.flow.specs.Stream.{served}
use Rattle.flow.proofs.feed.Goals as goal

pub returns : goal.returns
returns g c =
    let held = found c.check.ensures c.if-not-check.false in
    well_formed held.0 held.1 (ap served (c.serve.ensures held.0 held.1))
