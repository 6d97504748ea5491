-- With the digits that are left written too, the bytes would be those of the whole word.
use Rattle.std.proofs.Common.{◌-◌, ◌≡◌}
use Rattle.std.proofs.lemmas.List.Edits.{sets}
use Rattle.rules.specs.Lines.{spelled}
use Rattle.digits.proofs.bytes.Bytes.spell_word.Given as goal

abbrev pub invariant-loop-i : goal.invariant-loop-i
invariant-loop-i l = sets l.out l.at (spelled (8 - l.i) l.rest) ≡ sets l.fn.out l.at (spelled 8 l.w)
