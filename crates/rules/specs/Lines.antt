-- "The line program": the bytes that it writes for the bytes that it reads.
use Rattle.std.specs.Prelude.{◌&&◌, List, [], ◌∷◌, ◌++◌, ℕ, zero, suc, ◌+◌, ◌-◌, ◌*◌, ◌/◌, ◌%◌, eqb, leb, ltb, length, take, drop}
use Rattle.std.proofs.Math.Option.{Option, none as nil, some}
use Rattle.rules.specs.Order.{choose}
use Rattle.rules.specs.Edition.{Edition}
use Rattle.rules.specs.Command.{Command, BAD_LINE, Answer, bare, answer_words, command_size, command_at}
use Rattle.rules.specs.Perform.{State, Outcome, new, gives, perform}

abbrev pub newline : ℕ
newline = 10

-- A hexadecimal digit: "0 to 9, a to f".
unfoldable pub digit : ℕ → Option ℕ
digit b =
    choose (leb 48 b && leb b 57) (some (b - 48))
    (choose (leb 97 b && leb b 102) (some (b - 87)) nil)

-- The digit's byte.
unfoldable pub byte_of : ℕ → ℕ
byte_of d = choose (ltb d 10) (48 + d) (87 + d)

abbrev pub and_then : Option ℕ → Option (List ℕ) → Option (List ℕ)
and_then nil ds = nil
and_then (some d) nil = nil
and_then (some d) (some ds) = some (d ∷ ds)

-- The digits of a line, if it holds nothing else.
unfoldable pub digits : List ℕ → Option (List ℕ)
digits [] = some []
digits (b ∷ line) = and_then (digit b) (digits line)

-- The number that digits spell, high digit first, after a number that was read before them.
unfoldable pub number_from : ℕ → List ℕ → ℕ
number_from n [] = n
number_from n (d ∷ ds) = number_from (16 * n + d) ds

-- So many "words of 8 digits".
unfoldable pub words_from : ℕ → List ℕ → List ℕ
words_from zero ds = []
words_from (suc n) ds = number_from 0 (take 8 ds) ∷ words_from n (drop 8 ds)

-- So many digits of a number, as bytes, "the highest digit first".
unfoldable pub spelled : ℕ → ℕ → List ℕ
spelled zero w = []
spelled (suc n) w = spelled n (w / 16) ++ (byte_of (w % 16) ∷ [])

unfoldable pub all_spelled : List ℕ → List ℕ
all_spelled [] = []
all_spelled (w ∷ ws) = spelled 8 w ++ all_spelled ws

-- The lines of the bytes, after the bytes of one that is not ended. "A newline ends a line. The last line may come without its newline;
-- behind a newline at the very end there is no further line."
abbrev pub unfinished : List ℕ → List (List ℕ)
unfinished [] = []
unfinished (b ∷ line) = (b ∷ line) ∷ []

unfoldable pub lines_after : List ℕ → List ℕ → List (List ℕ)
lines_after line [] = unfinished line
lines_after line (b ∷ more) =
    choose (eqb b newline) (line ∷ lines_after [] more) (lines_after (line ++ (b ∷ [])) more)

unfoldable pub lines : List ℕ → List (List ℕ)
lines bytes = lines_after [] bytes

module _ {K : Type 0} (ed : Edition K) where
  abbrev pub command_of : Option (List ℕ) → Option (Command K)
  command_of nil = nil
  command_of (some ds) = some (command_at ed (words_from (command_size ed) ds))

  -- "One command on each line, as exactly 24 hexadecimal digits .. three words of 8 digits".
  unfoldable pub line_command : List ℕ → Option (Command K)
  line_command line = choose (eqb (length line) (8 * command_size ed)) (command_of (digits line)) nil

  -- "Every other line .. is answered by code 15 BAD LINE and three zeros, and changes nothing."
  abbrev pub line_outcome : Option (Command K) → State K → Outcome K
  line_outcome nil st = gives (bare ed BAD_LINE 0) st
  line_outcome (some c) st = perform ed c st

  -- "For each line the program writes the answer's four words, 32 digits in the same way, and a newline."
  unfoldable pub answer_line : Answer K → List ℕ
  answer_line a = all_spelled (answer_words ed a) ++ (newline ∷ [])

  unfoldable pub respond : List (List ℕ) → State K → List ℕ
  respond [] st = []
  respond (line ∷ more) st =
      let o = line_outcome (line_command line) st in
      answer_line o.answer ++ respond more o.state

  -- What a line program with an arena of n slots, newly made, writes for its input.
  unfoldable pub output : ℕ → List ℕ → List ℕ
  output n input = respond (lines input) (new n)

-- "The arena has 1,024 slots".
abbrev pub program_slots : ℕ
program_slots = 1024

-- What the line program of an edition writes for its input.
abbrev pub program : {K : Type 0} → Edition K → List ℕ → List ℕ
program ed input = output ed program_slots input
