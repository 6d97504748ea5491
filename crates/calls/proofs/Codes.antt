-- Codes by their numbers: no two codes have the same one, so an answer's words tell its code.
use mathlib.Core.List.{[], ◌∷◌}
use mathlib.Core.Path.{◌≡◌, refl, sym, ap, ◌∙◌}
use Prim.Native.Nat.{ℕ}
use lib.ListN.{get_or}
use Rattle.rules.specs.Edition.{edition}
use Rattle.rules.specs.Command.{Code, FOUND, ABSENT, NEW, REPLACED, REMOVED, FULL, COUNT, UNKNOWN, SIZE, SHORT, DAMAGED, RAGGED, NO_ROOM, BAD_LINE, code_number, answer_words}
use Rattle.rules.specs.Command as rules
use Rattle.heads.specs.Worded.{code_of}
use Rattle.heads.specs.declared.answer.Answer.{Answer}
use Rattle.calls.specs.Told.{told}

-- The code that has this number; 8 and 9 are no code's.
code_at : ℕ → Code
code_at n =
    get_or
    (FOUND
    ∷ ABSENT
    ∷ NEW
    ∷ REPLACED
    ∷ REMOVED
    ∷ FULL
    ∷ COUNT
    ∷ UNKNOWN
    ∷ UNKNOWN
    ∷ UNKNOWN
    ∷ SIZE
    ∷ SHORT
    ∷ DAMAGED
    ∷ RAGGED
    ∷ NO_ROOM
    ∷ [])
    n BAD_LINE

code_again : (c : Code) → code_at (code_number c) ≡ c
unfolding code_at
code_again FOUND = refl
code_again ABSENT = refl
code_again NEW = refl
code_again REPLACED = refl
code_again REMOVED = refl
code_again FULL = refl
code_again COUNT = refl
code_again UNKNOWN = refl
code_again SIZE = refl
code_again SHORT = refl
code_again DAMAGED = refl
code_again RAGGED = refl
code_again NO_ROOM = refl
code_again BAD_LINE = refl

pub same_code : (a b : Code) → code_number a ≡ code_number b → a ≡ b
same_code a b e = sym (code_again a) ∙ ap code_at e ∙ code_again b

-- What an answer's words say of its code.
pub code_said : {K : Type 0} (number : K → ℕ) (wd : ℕ) (r : Answer K) (m : rules.Answer ℕ) → told number wd r ≡ answer_words (edition wd) m
    → code_of r.code ≡ m.code
code_said number wd r m e = same_code (code_of r.code) m.code cc
