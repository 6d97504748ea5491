-- Answers as words, and what a step and the steps of a run leave.
use Rattle.std.specs.Prelude.{List, [], ◌∷◌, ◌++◌, ◌≡◌, ℕ, ◌+◌, ◌*◌, ◌/◌, length, drop}
use Rattle.rules.specs.Edition.{edition, spelled}
use Rattle.rules.specs.Command.{Command, code_number, answer_words}
use Rattle.rules.specs.Perform.{State}
use Rattle.rules.specs.Arena.{WellFormed, over}
use Rattle.rules.specs.Reading.{Reading}
use Rattle.rules.specs.Calls.{perform_as, perform_all, commands_of, all_answers}
use Rattle.heads.specs.declared.answer.Answer.{Answer}
use Rattle.heads.specs.Worded.{code_of}

-- An answer's words, where its key takes so many.
abbrev pub told : {K : Type 0} → (K → ℕ) → ℕ → Answer K → List ℕ
told number wd r = code_number (code_of r.code) ∷ (spelled wd (number r.key) ++ (r.value ∷ r.count ∷ []))

-- One command is done, and its answer stands at the front of the lent words; those behind it stay.
pub record Stepped (wd : ℕ) (r : Reading) (c : Command ℕ) (st : State ℕ) (w w' out out' : List ℕ) : Type 0 where
  pub told : out' ≡ answer_words (edition wd) (perform_as (edition wd) r c st).answer ++ drop (3 + wd) out
  pub words : w' ≡ over (edition wd) (perform_as (edition wd) r c st).state w
  pub formed : WellFormed (edition wd) w' (perform_as (edition wd) r c st).state

-- All commands of a list are done, each answer after the one before; answer words beyond stay.
pub record RanAll (wd : ℕ) (r : Reading) (list : List ℕ) (st : State ℕ) (w w' out out' : List ℕ) : Type 0 where
  pub told : out'
      ≡ all_answers (edition wd) (perform_all (edition wd) r (commands_of (edition wd) list) st).answers
      ++ drop ((3 + wd) * (length list / (2 + wd))) out
  pub words : w' ≡ over (edition wd) (perform_all (edition wd) r (commands_of (edition wd) list) st).state w
