-- What still has to come is fed: nothing after a last newline, and else a newline.
use Rattle.std.proofs.Common.{arith}
use Rattle.flow.proofs.Pieces.{ended_open}
use Rattle.flow.proofs.finish.Goals as goal

pub returns : goal.returns
returns g c = rw (ended_open c.args.pending (λ e. omega arith)) c.feed-2.ensures
