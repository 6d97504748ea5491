-- Worked arenas as tables: what a table says, and what the rules give for the same commands.
use Rattle.std.specs.Prelude.{Bool, true, false, ◌&&◌, ◌||◌, List, [], ◌∷◌, ℕ, ◌+◌, ◌-◌, ◌*◌, eqb, leb}
use Prim.Native.Char.{code}
use Prim.Native.String.{String, [] as end, ◌∷◌ as ◌then◌}
use Rattle.rules.specs.Order.{choose}
use Rattle.rules.specs.Edition.{Edition, M}
use Rattle.rules.specs.Command.{command_at, answer_words}
use Rattle.rules.specs.Perform.{State, new}
use Rattle.rules.specs.Arena.{words}
use Rattle.rules.specs.Reading.{Reading}
use Rattle.rules.specs.Calls.{perform_as}

-- A command that leads to a row, or a row: whose command it is, its words, its answer, and every word of the arena after it. Words are
-- written as docs/RULES.md writes them, a comma after the header and after each slot: `2 1 1 2, 5 50 0 0, 0 0 0 M`.
pub data Row : Type 0 where
  before : Reading → String → Row
  row : Reading → String → String → String → Row

-- Rows that follow each other from the making of N slots, with the words of the new arena.
pub data Story : Type 0 where
  story : ℕ → String → List Row → Story

-- The numbers that a text writes, in decimal, a space between two. M is M, and M-5 is 5 below it. Every other character says nothing. The
-- number at hand began with M or not, and n is what its digits make so far.
abbrev pub number : Bool → ℕ → ℕ
number from_M n = choose from_M (M - n) n

abbrev pub with_digit : ℕ → ℕ → ℕ
with_digit c n = choose (leb 48 c && leb c 57) (10 * n + (c - 48)) n

unfoldable pub numbers_from : Bool → ℕ → String → List ℕ
numbers_from from_M n end = number from_M n ∷ []
numbers_from from_M n (◌then◌ c text) =
    elim (eqb (code c) 32) [
      | true ↦ number from_M n ∷ numbers_from false 0 text
      | false ↦ numbers_from (from_M || eqb (code c) 77) (with_digit (code c) n) text
    ]

abbrev pub numbers : String → List ℕ
numbers text = numbers_from false 0 text

abbrev pub Told : Type 0
Told = List (List ℕ × List ℕ)

-- What the table says.
unfoldable pub told : List Row → Told
told [] = []
told (before r c ∷ rows) = told rows
told (row r c a w ∷ rows) = (numbers a, numbers w) ∷ told rows

unfoldable pub all_told : List Story → List (List ℕ × Told)
all_told [] = []
all_told (story n w rows ∷ more) = (numbers w, told rows) ∷ all_told more

-- What the rules give.
module _ {K : Type 0} (ed : Edition K) where
  unfoldable pub given : List Row → State K → Told
  given [] st = []
  given (before r c ∷ rows) st = given rows (perform_as ed r (command_at ed (numbers c)) st).state
  given (row r c a w ∷ rows) st =
      let o = perform_as ed r (command_at ed (numbers c)) st in
      (answer_words ed o.answer, words ed o.state) ∷ given rows o.state

  unfoldable pub all_given : List Story → List (List ℕ × Told)
  all_given [] = []
  all_given (story n w rows ∷ more) = (words ed (new n), given rows (new n)) ∷ all_given more
