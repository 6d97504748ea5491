-- The number so far has at most i digits, and with the digits that are left it makes the word of all eight.
use Rattle.std.proofs.Common.{◌^◌, ◌≡◌, ◌<◌, take, drop}
use Rattle.rules.specs.Lines.{digits}
use Rattle.digits.specs.Read.{word_from}
use Rattle.digits.proofs.Taken.{word_after}
use Rattle.digits.proofs.digits.Digits.read_word.Given as goal

abbrev pub invariant-loop-i : goal.invariant-loop-i
invariant-loop-i l = (l.n < 16 ^ l.i) × (word_after l.line l.at l.n l.i ≡ word_from 0 (digits (take 8 (drop l.at l.line))))
