-- The words so far are spelled.
use Rattle.std.proofs.Common.{◌≡◌, take}
use Rattle.std.proofs.lemmas.List.Edits.{sets}
use Rattle.rules.specs.Lines.{all_spelled}
use Rattle.line.proofs.spell_key.Given as goal

abbrev pub invariant-loop-i : goal.invariant-loop-i
invariant-loop-i g l = l.out ≡ sets l.fn.out l.at (all_spelled (take l.i l.words))
