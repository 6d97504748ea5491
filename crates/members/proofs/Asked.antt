-- A call about one key from a call for one command.
use mathlib.Core.List.{List, ◌∷◌}
use mathlib.Core.Path.{◌≡◌, ap, ◌∙◌}
use Prim.Native.Nat.{ℕ}
use Rattle.std.specs.Prelude.{Result}
use Rattle.rules.specs.Edition.{edition}
use Rattle.rules.specs.Command.{Command, Code, DAMAGED, code_number, bare, answer_words}
use Rattle.rules.specs.Reading.{as_set}
use Rattle.rules.specs.Calls.{Replied, Does, well_formed, damaged, perform_as}
use Rattle.calls.proofs.Codes.{same_code}
use Rattle.members.specs.Asked.{was_of, Asks}
use Rattle.members.specs.declared.Refused.{Refused}
use Rattle.members.specs.declared.Was.{Was}

module _ {wd : ℕ} where
  -- The answer's first word is the number of the code k.
  pub asked : (k : Code) (c : Command ℕ) {words w w' : List ℕ} {x : Result Was Refused} → x ≡ was_of k
      → Does (edition wd) as_set c w (record { answer = code_number k ∷ words; arena = w' }) → Asks wd c w (record { was = x; arena = w' })
  asked k c {words} e (well_formed st f q) =
      let m = (perform_as (edition wd) as_set c st).answer in
      let g : code_number k ∷ words ≡ answer_words (edition wd) m = ap (λ (x : Replied). x.answer) q in
      let a = e ∙ ap was_of (same_code k m.code cc) in
      let b = ap (λ (x : Replied). x.arena) q in
      well_formed st f (λ i. record { was = a i; arena = b i })
  asked k c {words} e (damaged f q) =
      let g : code_number k ∷ words ≡ answer_words (edition wd) (bare (edition wd) DAMAGED 0) = ap (λ (x : Replied). x.answer) q in
      let a = e ∙ ap was_of (same_code k DAMAGED cc) in
      let b = ap (λ (x : Replied). x.arena) q in
      damaged f (λ i. record { was = a i; arena = b i })
