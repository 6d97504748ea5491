-- Digits that are written, as runs of stores into a list.
-- Assumes nothing.
use mathlib.Core.Path.{◌≡◌, refl}
use mathlib.Core.List.{List, [], ◌∷◌, ◌++◌}
use Prim.Native.Nat.{ℕ, zero, suc, ◌+◌, ◌-◌, ◌/◌, ◌%◌, ◌<◌}
use native.Mathlib.Nat.{add-zero, add-suc, suc-add}
use native.Mathlib.Numerals.{add-one}
use native.Mathlib.Omega.{arith}
use lib.ListN.{length, set, length-append}
use lib.Seq.{sets, set_comm}
use Rattle.rules.specs.Lines.{byte_of, spelled}

-- A run of stores after another one.
pub sets_append : (vs us l : List ℕ) (i : ℕ) → sets l i (vs ++ us) ≡ sets (sets l i vs) (i + length vs) us
sets_append [] us l i = rw add-zero
sets_append (v ∷ vs) us l i = rw (add-suc, ← suc-add) (sets_append vs us (set l i v) (suc i))

-- The last store of a run may be made first.
pub sets_last : (vs l : List ℕ) (i b : ℕ) → sets (set l (i + length vs) b) i vs ≡ sets l i (vs ++ (b ∷ []))
sets_last [] l i b = rw add-zero
sets_last (v ∷ vs) l i b =
    rw (set_comm l (i + suc (length vs)) i b v (omega arith), add-suc, ← suc-add) (sets_last vs (set l i v) (suc i) b)

pub spelled_length : (n w : ℕ) → length (spelled n w) ≡ n
unfolding spelled
spelled_length zero w = refl
spelled_length (suc n) w = rw (length-append, spelled_length n (w / 16), add-one)

pub spelled_turn : (l : List ℕ) (at n w : ℕ)
    → sets (set l (at + n) (byte_of (w % 16))) at (spelled n (w / 16)) ≡ sets l at (spelled (suc n) w)
unfolding spelled
spelled_turn l at n w =
    rw (spelled_length n (w / 16)) at (sets_last (spelled n (w / 16)) l at (byte_of (w % 16)))

-- A turn of the loop that writes digits from the right: one digit fewer is left to write.
pub written_turn : (l : List ℕ) (at i w b : ℕ) → i < 8 → b ≡ byte_of (w % 16)
    → sets (set l (at + (7 - i)) b) at (spelled (8 - (i + 1)) (w / 16)) ≡ sets l at (spelled (8 - i) w)
written_turn l at i w b h e =
    let fewer : 8 - (i + 1) ≡ 7 - i = omega arith in
    let left : 8 - i ≡ suc (7 - i) = omega arith in
    rw (fewer, left, e) (spelled_turn l at (7 - i) w)

pub written : (l : List ℕ) (at i w : ℕ) → i ≡ 8 → sets l at (spelled (8 - i) w) ≡ l
unfolding spelled
written l at i w e = rw e

-- What the proof of the writing loop needs.
pub ruleset writing = (written_turn, written)
