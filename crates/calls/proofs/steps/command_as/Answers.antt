-- `calls::steps::command_as` does the command as the reading has it, and words the answer in that reading.
use Rattle.keys.proofs.Read.{did_as}
use Rattle.calls.proofs.steps.command_as.Goals as goal

pub returns : goal.returns
returns g c st f = let q = did_as g.K.Key.WORDS _ _ _ c.command.ensures st (c.command-2.ensures st f) in rw c.answer.ensures q
