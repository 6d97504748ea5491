-- What a command's function promises: the outcome of the rules, in the answer's words and in every word of the arena.
use Rattle.std.specs.Prelude.{List, ◌≡◌, ℕ}
use Rattle.rules.specs.Edition.{edition, Width, Small}
use Rattle.rules.specs.Perform.{State, Outcome}
use Rattle.rules.specs.Arena.{WellFormed, over}
use Rattle.heads.specs.declared.answer.Answer.{Answer}
use Rattle.heads.specs.Worded.{Says}

-- The words are a well-formed arena of one of the two editions. (A clause and no type, as `Inside` is, and for the same reason.)
abbrev pub Formed : ℕ → List ℕ → Type 0
Formed wd w = (st : State ℕ) × WellFormed (edition wd) w st × Width wd

-- What the types of the arguments say of words before and after.
pub record Fair (wd : ℕ) (w w' : List ℕ) : Type 0 where
  pub width : Width wd
  pub before : Small w
  pub after : Small w'

-- The answer r and the words w' are those of the outcome o, from the words w; and w' is a well-formed arena again.
pub record Did {K : Type 0} (number : K → ℕ) (wd : ℕ) (o : Outcome ℕ) (w w' : List ℕ) (r : Answer K) : Type 0 where
  pub says : Says number r o.answer
  pub words : w' ≡ over (edition wd) o.state w
  pub formed : WellFormed (edition wd) w' o.state
