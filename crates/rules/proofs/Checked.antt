-- What a call gives on a well-formed arena and on a damaged one; when a run is refused; and the words that a call leaves.
use mathlib.Core.Bool.{Bool, true, false}
use mathlib.Core.List.{List, []}
use mathlib.Core.Option.{Option, none as nil, some}
use mathlib.Core.Path.{◌≡◌, refl, ◌∙◌, ap}
use Prim.Native.Nat.{ℕ, zero, suc, ◌*◌, ◌%◌, ◌≤◌, ◌<◌}
use native.Mathlib.Nat.{mul-zero, zero-mod, zero-div}
use native.Mathlib.Omega.{arith}
use lib.Dec.{eqb, leb}
use lib.ListN.{length, drop}
use lib.Seq.{drop_at}
use borrow.Author.Tests.{leb-true, le-leb, lt-leb, eqb-true, eq-eqb, ne_eqb}
use Rattle.rules.specs.Edition.{Edition, most_slots}
use Rattle.rules.specs.Command.{Code, SIZE, SHORT, RAGGED, NO_ROOM, code_number, accepted, command_size, answer_size}
use Rattle.rules.specs.Perform.{State, new}
use Rattle.rules.specs.Arena.{words, place, over, WellFormed}
use Rattle.rules.specs.Reading.{Reading}
use Rattle.rules.specs.Calls.{Ran, make, Checked, well_formed, damaged, how_many, refusal, Run}
use Rattle.rules.specs.Demands.{Left}
use Rattle.rules.proofs.Order.{Lawful}
use Rattle.rules.proofs.Sound.{Sound}
use Rattle.rules.proofs.WellFormed.{the_state}
use Rattle.rules.proofs.Words.{length_words, length_over, over_formed}

module _ {K : Type 0} (ed : Edition K) where
  -- On a well-formed arena a call gives what is said of its state, and on a damaged one what it gives where it refuses.
  pub checked_formed : {A : Type 0} {w : List ℕ} {f : State K → A} {x given : A} {st : State K}
      → WellFormed ed w st → Checked ed w f x given → given ≡ f st
  checked_formed {f = f} p (well_formed st' q e) = e ∙ ap f (the_state ed q p)
  checked_formed p (damaged no_state e) = absurd (no_state _ p)

  pub checked_damaged : {A : Type 0} {w : List ℕ} {f : State K → A} {x given : A}
      → ((st : State K) → ¬ WellFormed ed w st) → Checked ed w f x given → given ≡ x
  checked_damaged no_state (well_formed st p e) = absurd (no_state st p)
  checked_damaged no_state (damaged no_state' e) = e

  -- Making: what it gives for an N out of range, in too few words, and otherwise.
  pub make_size : (n : ℕ) (w : List ℕ) → (1 ≤ n → n ≤ most_slots → ⊥) → make ed n w ≡ record { returned = code_number SIZE; arena = w }
  unfolding make
  make_size zero w h = refl
  make_size (suc m) w h = rw (lt-leb (suc m) most_slots (let k = h (omega arith) in omega arith))

  pub make_short : (n : ℕ) (w : List ℕ) → 1 ≤ n → n ≤ most_slots → length w < place ed n
      → make ed n w ≡ record { returned = code_number SHORT; arena = w }
  unfolding make
  make_short zero w h k p = absurd (omega arith)
  make_short (suc m) w h k p = rw (le-leb (suc m) most_slots k, lt-leb (place ed (suc m)) (length w) p)

  pub make_new : (n : ℕ) (w : List ℕ) → 1 ≤ n → n ≤ most_slots → place ed n ≤ length w
      → make ed n w ≡ record { returned = accepted; arena = over ed (new n) w }
  unfolding make
  make_new zero w h k p = absurd (omega arith)
  make_new (suc m) w h k p = rw (le-leb (suc m) most_slots k, le-leb (place ed (suc m)) (length w) p)

  -- An accepted making had an N in range and words enough.
  pub make_accepted : (n : ℕ) (w : List ℕ) → (make ed n w).returned ≡ accepted → (1 ≤ n) × (n ≤ most_slots) × (place ed n ≤ length w)
  unfolding make
  make_accepted zero w e = absurd (omega arith)
  make_accepted (suc m) w e = by (leb (suc m) most_slots) refl (leb (place ed (suc m)) (length w)) refl
    where
      by : (a : Bool) → leb (suc m) most_slots ≡ a → (b : Bool) → leb (place ed (suc m)) (length w) ≡ b
          → (1 ≤ suc m) × (suc m ≤ most_slots) × (place ed (suc m) ≤ length w)
      by true p true q = (omega arith, leb-true (suc m) most_slots p, leb-true (place ed (suc m)) (length w) q)
      by true p false q = absurd (let z = rw (p, q) at e in omega arith)
      by false p b q = absurd (let z = rw p at e in omega arith)

  pub make_refused : (n : ℕ) (w : List ℕ) → ((make ed n w).returned ≡ accepted → ⊥) → (make ed n w).arena ≡ w
  unfolding make
  make_refused zero w h = refl
  make_refused (suc m) w h = by (leb (suc m) most_slots) refl (leb (place ed (suc m)) (length w)) refl
    where
      by : (a : Bool) → leb (suc m) most_slots ≡ a → (b : Bool) → leb (place ed (suc m)) (length w) ≡ b → (make ed (suc m) w).arena ≡ w
      by true p true q = absurd (h (rw (p, q)))
      by true p false q = rw (p, q)
      by false p b q = rw p

  -- When a run on a well-formed arena is refused.
  pub refusal_ragged : (cs : List ℕ) (room : ℕ) → (length cs % command_size ed ≡ 0 → ⊥) → refusal ed cs room ≡ some RAGGED
  unfolding refusal
  refusal_ragged cs room h = rw (ne_eqb (length cs % command_size ed) 0 h)

  pub refusal_no_room : (cs : List ℕ) (room : ℕ) → length cs % command_size ed ≡ 0 → room < answer_size ed * how_many ed cs
      → refusal ed cs room ≡ some NO_ROOM
  unfolding refusal
  refusal_no_room cs room h k =
      rw (eq-eqb (length cs % command_size ed) 0 h, lt-leb (answer_size ed * how_many ed cs) room k)

  pub refusal_none : (cs : List ℕ) (room : ℕ) → length cs % command_size ed ≡ 0 → answer_size ed * how_many ed cs ≤ room
      → refusal ed cs room ≡ nil
  unfolding refusal
  refusal_none cs room h k =
      rw (eq-eqb (length cs % command_size ed) 0 h, le-leb (answer_size ed * how_many ed cs) room k)

  pub not_refused : (cs : List ℕ) (room : ℕ) → refusal ed cs room ≡ nil
      → (length cs % command_size ed ≡ 0) × (answer_size ed * how_many ed cs ≤ room)
  unfolding refusal
  not_refused cs room e = by (eqb (length cs % command_size ed) 0) refl (leb (answer_size ed * how_many ed cs) room) refl
    where
      by : (a : Bool) → eqb (length cs % command_size ed) 0 ≡ a → (b : Bool) → leb (answer_size ed * how_many ed cs) room ≡ b
          → (length cs % command_size ed ≡ 0) × (answer_size ed * how_many ed cs ≤ room)
      by true p true q = (eqb-true (length cs % command_size ed) 0 p, leb-true (answer_size ed * how_many ed cs) room q)
      by true p false q = absurd (let f = rw (p, q) at e in let z : ◌≡◌ {A = ℕ} 0 1 = cc in omega arith)
      by false p b q = absurd (let f = rw p at e in let z : ◌≡◌ {A = ℕ} 0 1 = cc in omega arith)

  -- A run is refused with RAGGED or NO ROOM, apart from DAMAGED.
  pub refusal_number : (cs : List ℕ) (room : ℕ) (c : Code) → refusal ed cs room ≡ some c
      → (code_number RAGGED ≤ code_number c) × (code_number c ≤ code_number NO_ROOM)
  unfolding refusal
  refusal_number cs room c e = by (eqb (length cs % command_size ed) 0) refl (leb (answer_size ed * how_many ed cs) room) refl
    where
      is : (d : Code) → some d ≡ some c → code_number d ≡ code_number c
      is d f = let g : d ≡ c = cc in rw g

      by : (a : Bool) → eqb (length cs % command_size ed) 0 ≡ a → (b : Bool) → leb (answer_size ed * how_many ed cs) room ≡ b
          → (code_number RAGGED ≤ code_number c) × (code_number c ≤ code_number NO_ROOM)
      by true p true q = absurd (let f = rw (p, q) at e in let z : ◌≡◌ {A = ℕ} 0 1 = cc in omega arith)
      by true p false q = let f = is NO_ROOM (rw (p, q) at e) in omega arith
      by false p b q = let f = is RAGGED (rw p at e) in omega arith

  -- A run that returns 0 found a well-formed arena, and no refusal.
  pub run_accepted : (r : Reading) (cs : List ℕ) {w buffer : List ℕ} {given : Ran} → Run ed r cs w buffer given
      → given.returned ≡ accepted → (st : State K) × WellFormed ed w st × (refusal ed cs (length buffer) ≡ nil)
  run_accepted r cs (damaged no_state e) h = absurd (let z = ap (λ (g : Ran). g.returned) e in omega arith)
  run_accepted r cs {w} {buffer} {given} (well_formed st a e) h = by (refusal ed cs (length buffer)) refl
    where
      by : (o : Option Code) → refusal ed cs (length buffer) ≡ o
          → (st : State K) × WellFormed ed w st × (refusal ed cs (length buffer) ≡ nil)
      by nil q = (st, a, q)
      by (some c) q =
          let z = ap (λ (g : Ran). g.returned) e in
          let y = rw q at z in
          absurd (omega (arith, refusal_number cs (length buffer) c q))

  -- A run that does not return 0 leaves the arena and the buffer.
  pub run_unchanged : (r : Reading) (cs : List ℕ) {w buffer : List ℕ} {given : Ran} → Run ed r cs w buffer given
      → (given.returned ≡ accepted → ⊥) → (given.arena ≡ w) × (given.answers ≡ buffer)
  run_unchanged r cs (damaged no_state e) h = rw e (refl, refl)
  run_unchanged r cs {w} {buffer} {given} (well_formed st a e) h = by (refusal ed cs (length buffer)) refl
    where
      by : (o : Option Code) → refusal ed cs (length buffer) ≡ o → (given.arena ≡ w) × (given.answers ≡ buffer)
      by (some c) q = rw (e, q) (refl, refl)
      by nil q = absurd (h (rw (e, q)))

  -- An empty list is no refusal.
  pub refusal_empty : (room : ℕ) → refusal ed [] room ≡ nil
  refusal_empty room =
      refusal_none [] room (zero-mod (command_size ed)) (rw (zero-div (command_size ed), mul-zero (answer_size ed)) (omega arith))

  module _ (laws : Lawful ed) where
    -- A sound state with as many slots as the arena had, written over its words.
    pub left_by : {w : List ℕ} {st : State K} → WellFormed ed w st → (st' : State K) → Sound ed st' → st'.slots ≡ st.slots
        → Left ed st.slots w st' (over ed st' w)
    left_by {w} {st} a st' h e =
        record {
          every_word = refl;
          formed = over_formed ed laws h w long;
          slots = e;
          as_long = length_over ed laws st' w long;
          behind =
              drop_at (words ed st') (drop (place ed st'.slots) w) (place ed st.slots) (length_words ed laws st' ∙ ap (place ed) e)
              ∙ ap (λ (n : ℕ). drop (place ed n) w) e;
        }
      where
        long : place ed st'.slots ≤ length w
        long = rw e a.long
