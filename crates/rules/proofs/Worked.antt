-- What the worked cases of both editions use.
use mathlib.Core.List.{List, [], ◌∷◌, ◌++◌}
use mathlib.Core.Path.{◌≡◌, sym, ◌∙◌, ap}
use Prim.Native.Char.{code}
use Prim.Native.Nat.{ℕ, zero, suc}
use Prim.Native.String.{String, [] as empty, ◌∷◌ as ◌then◌}
use native.Mathlib.Omega.{arith}
use lib.ListN.{get_or}
use Rattle.rules.specs.Edition.{edition}
use Rattle.rules.specs.Perform.{State}
use Rattle.rules.specs.Arena.{first_link, free_slot, Chained, slot_at, WellFormed}

unfoldable pub zeros : ℕ → List ℕ
zeros zero = []
zeros (suc n) = 0 ∷ zeros n

-- The bytes of a text in ASCII, and of lines that each end with a newline.
unfoldable pub bytes : String → List ℕ
bytes empty = []
bytes (◌then◌ c s) = code c ∷ bytes s

unfoldable pub text : List String → List ℕ
text [] = []
text (s ∷ more) = bytes s ++ (10 ∷ text more)

-- An arena whose chain begins with slot 0 is damaged where that slot is not free.
pub no_free_slot : (wd : ℕ) (w : List ℕ) → get_or w 3 0 ≡ 1
    → ((next : ℕ) → slot_at (edition wd) w 0 ≡ free_slot (edition wd) next → ⊥) → (st : State ℕ) → ¬ WellFormed (edition wd) w st
no_free_slot wd w e not_Free st a = by st.free (sym e ∙ a.first_free) a.chain
  where
    by : (c : List ℕ) → 1 ≡ first_link c → Chained (edition wd) (slot_at (edition wd) w) c → ⊥
    by [] p h = omega arith
    by (x ∷ c) p h =
        let z : 0 ≡ x = omega arith in
        not_Free (first_link c) (ap (slot_at (edition wd) w) z ∙ h.0)
