-- Each return says of the words, as far as they were read, what the whole line says.
use Rattle.std.proofs.Common.{rules}
use Rattle.line.proofs.Words.{unsaid, said}
use Rattle.line.proofs.read_with.Goals as goal

pub returns-then-line-command_bytes : goal.returns-then-line-command_bytes
returns-then-line-command_bytes g c = unsaid g.met.K.Key.width _ _ (search rules)

pub returns-in_err-number : goal.returns-in_err-number
returns-in_err-number g c = said g.met.K.Key.width _ _ _ (search rules) (search rules)

pub returns-in_err-key : goal.returns-in_err-key
returns-in_err-key g c = said g.met.K.Key.width _ _ _ (search rules) (search rules)

pub returns-in_err-value : goal.returns-in_err-value
returns-in_err-value g c = said g.met.K.Key.width _ _ _ (search rules) (search rules)

pub returns : goal.returns
returns g c = said g.met.K.Key.width _ _ _ (search rules) (search rules)
