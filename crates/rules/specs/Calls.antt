-- The whole calls: making, one command, a run; and what they refuse, in which order. The set's calls are these with its reading.
use Rattle.std.specs.Prelude.{List, [], ◌∷◌, ◌++◌, ◌≡◌, ℕ, zero, suc, ◌*◌, ◌/◌, ◌%◌, eqb, leb, length, drop}
use Rattle.std.proofs.Math.Option.{Option, none as nil, some}
use Rattle.rules.specs.Order.{choose}
use Rattle.rules.specs.Edition.{Edition, most_slots}
use Rattle.rules.specs.Command.{Command, command, Code, SIZE, SHORT, DAMAGED, RAGGED, NO_ROOM, code_number, accepted, Answer, bare, answer_words, command_size, answer_size, command_at}
use Rattle.rules.specs.Perform.{State, Outcome, new, gives, perform}
use Rattle.rules.specs.Arena.{WellFormed, place, over}
use Rattle.rules.specs.Reading.{Reading, read_as, answer_as}

-- What a making gives: the code returned, and the words afterwards.
pub record Made : Type 0 where
  pub returned : ℕ
  pub arena : List ℕ

-- What a call for one command gives: the answer's words, and the arena's afterwards.
pub record Replied : Type 0 where
  pub answer : List ℕ
  pub arena : List ℕ

-- What a run gives: the code returned, and the words of the arena and of the answer buffer afterwards.
pub record Ran : Type 0 where
  pub returned : ℕ
  pub arena : List ℕ
  pub answers : List ℕ

-- What commands in order give: their answers, and the state after the last.
pub record Performed (K : Type 0) : Type 0 where
  pub answers : List (Answer K)
  pub state : State K

module _ {K : Type 0} (ed : Edition K) where
  -- Making refuses "10 SIZE", where "N is 0 or above 4,095", and then "11 SHORT", where "there are fewer than 4+4N words".
  unfoldable pub make : ℕ → List ℕ → Made
  make zero w = record { returned = code_number SIZE; arena = w }
  make (suc m) w =
      choose (leb (suc m) most_slots)
      (choose (leb (place ed (suc m)) (length w))
      (record { returned = accepted; arena = over ed (new (suc m)) w })
      (record { returned = code_number SHORT; arena = w }))
      (record { returned = code_number SIZE; arena = w })

  -- "12 DAMAGED": "the arena is not well formed". Of a single command and of a run this is the first refusal: a call gives what `f` says of
  -- the state that the arena holds, or else what it gives where it refuses.
  pub data Checked {A : Type 0} (w : List ℕ) (f : State K → A) (refused given : A) : Type 0 where
    well_formed : (st : State K) → WellFormed ed w st → given ≡ f st → Checked w f refused given
    damaged : ((st : State K) → ¬ WellFormed ed w st) → given ≡ refused → Checked w f refused given

  unfoldable pub perform_as : Reading → Command K → State K → Outcome K
  perform_as r c st = let o = perform ed (read_as r c) st in gives (answer_as r o.answer) o.state

  abbrev pub one_on : Reading → Command K → List ℕ → State K → Replied
  one_on r c w st =
      let o = perform_as r c st in
      record { answer = answer_words ed o.answer; arena = over ed o.state w }

  -- "A call for one command that is refused answers the code and three zeros."
  abbrev pub one_refused : List ℕ → Replied
  one_refused w = record { answer = answer_words ed (bare ed DAMAGED 0); arena = w }

  -- A call for the command c on the arena w gives `given`.
  abbrev pub Does : Reading → Command K → List ℕ → Replied → Type 0
  Does r c w given = Checked w (one_on r c w) (one_refused w) given

  -- The same of a command by "its number, a key and a value".
  abbrev pub One : Reading → ℕ → K → ℕ → List ℕ → Replied → Type 0
  One r n k v w given = Does r (command n k v) w given

  -- So many commands, read off a list of words one after the other.
  unfoldable pub commands : ℕ → List ℕ → List (Command K)
  commands zero w = []
  commands (suc n) w = command_at ed w ∷ commands n (drop (command_size ed) w)

  abbrev pub how_many : List ℕ → ℕ
  how_many w = length w / command_size ed

  abbrev pub commands_of : List ℕ → List (Command K)
  commands_of w = commands (how_many w) w

  -- "13 RAGGED": "the number of command words is no multiple of 3". Then "14 NO ROOM": "there are fewer than 4 answer words for each
  -- command".
  unfoldable pub refusal : List ℕ → ℕ → Option Code
  refusal w answer_room =
      choose (eqb (length w % command_size ed) 0)
      (choose (leb (answer_size ed * how_many w) answer_room) nil (some NO_ROOM))
      (some RAGGED)

  -- A run "does the commands of its list in order".
  unfoldable pub perform_all : Reading → List (Command K) → State K → Performed K
  perform_all r [] st = record { answers = []; state = st }
  perform_all r (c ∷ cs) st =
      let o = perform_as r c st in
      let p = perform_all r cs o.state in
      record { answers = o.answer ∷ p.answers; state = p.state }

  unfoldable pub all_answers : List (Answer K) → List ℕ
  all_answers [] = []
  all_answers (a ∷ more) = answer_words ed a ++ all_answers more

  -- "The first answer is written at the front of the answer words and each further one right behind the answer before it; the answer words
  -- that are left over stay as they were." And "a refused call changes no word".
  abbrev pub run_by : Option Code → Reading → List ℕ → List ℕ → List ℕ → State K → Ran
  run_by (some c) r cs w buffer st = record { returned = code_number c; arena = w; answers = buffer }
  run_by nil r cs w buffer st =
      let p = perform_all r (commands_of cs) st in
      record {
        returned = accepted;
        arena = over ed p.state w;
        answers = all_answers p.answers ++ drop (answer_size ed * how_many cs) buffer;
      }

  abbrev pub run_on : Reading → List ℕ → List ℕ → List ℕ → State K → Ran
  run_on r cs w buffer st = run_by (refusal cs (length buffer)) r cs w buffer st

  abbrev pub run_refused : List ℕ → List ℕ → Ran
  run_refused w buffer = record { returned = code_number DAMAGED; arena = w; answers = buffer }

  -- A run of the command words cs on the arena w, with an answer buffer, gives `given`.
  abbrev pub Run : Reading → List ℕ → List ℕ → List ℕ → Ran → Type 0
  Run r cs w buffer given = Checked w (run_on r cs w buffer) (run_refused w buffer) given
