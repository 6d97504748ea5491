-- The slot that `fill` leaves, word by word.
use Rattle.node.proofs.Words.{fills}
use Rattle.node.proofs.fill.Goals as goal

pub returns : goal.returns
returns g c = search fills
