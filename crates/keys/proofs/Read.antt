-- What the map did with a command as a reading has it, worded in that reading, is what the reading does with the command.
use mathlib.Core.List.{List}
use mathlib.Core.Path.{◌≡◌, sym, ap, ◌∙◌}
use Prim.Native.Nat.{ℕ}
use Rattle.rules.specs.Edition.{edition}
use Rattle.rules.specs.Command.{Command}
use Rattle.rules.specs.Command as rules
use Rattle.rules.specs.Perform.{State, gives, perform}
use Rattle.rules.specs.Reading.{Reading, value_as, read_as, answer_as}
use Rattle.rules.specs.Calls.{perform_as}
use Rattle.heads.specs.declared.answer.Answer.{Answer}
use Rattle.heads.specs.Worded.{code_of, Says}
use Rattle.heads.specs.Did.{Did}

-- The answer in a reading's words.
abbrev pub worded : {K : Type 0} → Reading → Answer K → Answer K
worded by r = record { code = r.code; key = r.key; value = value_as by (code_of r.code) r.value; count = r.count }

pub says_as : {K : Type 0} {number : K → ℕ} (by : Reading) {r : Answer K} {m : rules.Answer ℕ} → Says number r m → Says number (worded by r) (answer_as by m)
says_as by {r} {m} s =
    record {
      code = s.code;
      key = s.key;
      value = ap (λ (c : rules.Code). value_as by c r.value) s.code ∙ ap (λ (v : ℕ). value_as by m.code v) s.value;
      count = s.count;
    }

-- The reading has the command c as c'.
module _ (wd : ℕ) (by : Reading) (c c' : Command ℕ) (e : c' ≡ read_as by c) (st : State ℕ) where
  pub outcome : perform_as (edition wd) by c st ≡ (let o = perform (edition wd) c' st in gives (answer_as by o.answer) o.state)
  unfolding perform_as
  outcome = ap (λ (q : Command ℕ). gives (answer_as by (perform (edition wd) q st).answer) (perform (edition wd) q st).state) (sym e)

  pub did_as : {K : Type 0} {number : K → ℕ} {w w' : List ℕ} {r : Answer K} → Did number wd (perform (edition wd) c' st) w w' r
      → Did number wd (perform_as (edition wd) by c st) w w' (worded by r)
  did_as d = rw outcome (record { says = says_as by d.says; words = d.words; formed = d.formed })
