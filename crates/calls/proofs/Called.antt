-- One command in words: the answer that a function gives is the one of the rules, for either reading.
use mathlib.Core.List.{List, [], ◌∷◌, ◌++◌}
use mathlib.Core.Path.{◌≡◌, ap, ◌∙◌}
use Prim.Native.Nat.{ℕ, ◌+◌}
use lib.ListN.{drop}
use Rattle.rules.specs.Edition.{edition, spelled, Width}
use Rattle.rules.specs.Command.{Command, code_number, answer_words}
use Rattle.rules.specs.Command as rules
use Rattle.rules.specs.Perform.{State}
use Rattle.rules.specs.Reading.{Reading}
use Rattle.rules.specs.Calls.{Replied, perform_as, one_on}
use Rattle.rules.proofs.Order.{by_width}
use Rattle.heads.specs.Did.{Did}
use Rattle.heads.specs.Worded.{Says}
use Rattle.heads.specs.declared.answer.Answer.{Answer}
use Rattle.calls.specs.Told.{told, Stepped}

module _ {K : Type 0} {number : K → ℕ} where
  -- The words of an answer that says what the rules' answer says.
  pub said_words : (wd : ℕ) {r : Answer K} {a : rules.Answer ℕ} → Says number r a → told number wd r ≡ answer_words (edition wd) a
  said_words wd s i = code_number (s.code i) ∷ (spelled wd (s.key i) ++ (s.value i ∷ s.count i ∷ []))

-- What an answer's words say of its value.
module _ {K : Type 0} (number : K → ℕ) where
  pub value_said : {wd : ℕ} (r : Answer K) (m : rules.Answer ℕ) → Width wd → told number wd r ≡ answer_words (edition wd) m
      → r.value ≡ m.value
  value_said r m h = by_width h (λ wd. told number wd r ≡ answer_words (edition wd) m → r.value ≡ m.value) (λ e. cc) (λ e. cc)

-- Once a command is done: what a step leaves, and what a call for one command gives.
module _ {K : Type 0} {number : K → ℕ} {wd : ℕ} (r : Reading) (c : Command ℕ) (st : State ℕ) {w w' : List ℕ} {s : Answer K}
    (d : Did number wd (perform_as (edition wd) r c st) w w' s) where
  pub stepped : (out : List ℕ) {out' : List ℕ} → out' ≡ told number wd s ++ drop (3 + wd) out → Stepped wd r c st w w' out out'
  stepped out e =
      record {
        told = e ∙ ap (λ (q : List ℕ). q ++ drop (3 + wd) out) (said_words wd d.says);
        words = d.words;
        formed = d.formed;
      }

  pub replied : ◌≡◌ {A = Replied} (record { answer = told number wd s; arena = w' }) (one_on (edition wd) r c w st)
  replied = let a = said_words wd d.says in λ i. record { answer = a i; arena = d.words i }
