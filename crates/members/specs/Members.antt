-- What it is for a key to be in the set, and for an answer to say so.
use mathlib.Core.List.{List, [], ◌∷◌, map, Memᴰ}
use Rattle.std.specs.Prelude.{◌≡◌, ℕ, length}
use Rattle.rules.specs.Live.{Pair}
use Rattle.rules.specs.Tree.{entries}
use Rattle.rules.specs.Perform.{State}

-- The key is that of one of the entries.
abbrev pub Among : ℕ → List (Pair ℕ) → Type 0
Among k l = Memᴰ k (map (λ (p : Pair ℕ). p.key) l)

-- The key is in the set that the arena holds.
abbrev pub Member : ℕ → State ℕ → Type 0
Member k st = Among k (entries st.tree)

-- x is `yes` and the key is in the set, or x is `no` and it is not.
pub data SaysIn (k : ℕ) (st : State ℕ) {A : Type 0} (yes no x : A) : Type 0 where
  member : Member k st → x ≡ yes → SaysIn k st yes no x
  no_member : (Member k st → ⊥) → x ≡ no → SaysIn k st yes no x

-- The same of an insert: where the key is not in the set, there are N keys, or fewer.
pub data SaysStored (k : ℕ) (st : State ℕ) {A : Type 0} (old full new x : A) : Type 0 where
  was_there : Member k st → x ≡ old → SaysStored k st old full new x
  no_room : (Member k st → ⊥) → length (entries st.tree) ≡ st.slots → x ≡ full → SaysStored k st old full new x
  is_new : (Member k st → ⊥) → (length (entries st.tree) ≡ st.slots → ⊥) → x ≡ new → SaysStored k st old full new x

-- Every entry's value is 0.
abbrev pub Zeros : List (Pair ℕ) → Type 0
Zeros [] = Unit {0}
Zeros (x ∷ l) = (x.value ≡ 0) × Zeros l
