-- How a digit and a word that were read stand for what the rules say of the bytes, and what the tables hold.
use Rattle.std.specs.Prelude.{List, ◌≡◌, ℕ, ◌<◌, get_or, Option, Some, None}
use Rattle.std.proofs.Math.Option as rules
use Rattle.std.proofs.Math.Option.{none as nil, some}
use Rattle.rules.specs.Lines.{digit, byte_of, number_from}

-- A digit as one number: itself, and 16 where there is none.
abbrev pub coded : rules.Option ℕ → ℕ
coded nil = 16
coded (some d) = d

-- A table that has for each byte the code of its digit.
abbrev pub DigitTable : List ℕ → Type 0
DigitTable t = (b : ℕ) → b < 256 → get_or t b 0 ≡ coded (digit b)

-- A table that has for each digit its byte.
abbrev pub ByteTable : List ℕ → Type 0
ByteTable t = (d : ℕ) → d < 16 → get_or t d 0 ≡ byte_of d

-- The word that digits spell after a number that was read before them.
abbrev pub word_from : ℕ → rules.Option (List ℕ) → Option ℕ
word_from n nil = None
word_from n (some ds) = Some (number_from n ds)
