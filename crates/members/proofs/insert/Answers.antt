-- `members::insert` tells what the set's command insert says of the key.
use Rattle.members.proofs.Asked.{asked}
use Rattle.members.proofs.insert.Goals as goal

pub returns : goal.returns
returns g c = asked _ _ c.try_from.ensures c.one-r.ensures.one
