-- The command's answer is the one that is written.
use Rattle.flow.proofs.Ended.{answered_by}
use Rattle.flow.proofs.obey.Goals as goal

pub returns : goal.returns
returns g c line st e f =
    answered_by line e (rw c.numbered.ensures at (c.command-r.ensures st f)) c.from.ensures c.write_answer.ensures
