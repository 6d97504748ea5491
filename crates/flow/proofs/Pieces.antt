-- Bytes that are taken in two pieces, and lines that are answered in two runs, give what they give at once.
-- Assumes nothing.
use mathlib.Core.Bool.{Bool, true, false}
use mathlib.Core.List.{List, [], ◌∷◌, ◌++◌, append_assoc}
use mathlib.Core.Option.{Option, none as nil, some}
use mathlib.Core.Path.{◌≡◌, refl, sym, ◌∙◌, ap}
use Prim.Native.Nat.{ℕ, suc, ◌-◌, ◌≤◌, ◌<◌}
use native.Mathlib.Omega.{arith}
use lib.Dec.{eqb, leb}
use lib.ListN.{length, length-append}
use borrow.Author.Tests.{le-leb, lt-leb, eq-eqb, ne_eqb}
use Rattle.rules.specs.Order.{choose}
use Rattle.rules.specs.Edition.{Edition}
use Rattle.rules.specs.Command.{Command, Answer}
use Rattle.rules.specs.Perform.{State}
use Rattle.rules.specs.Lines.{newline, line_command, line_outcome, answer_line, respond}
use Rattle.rules.proofs.Order.{Lawful}
use Rattle.rules.proofs.Sound.{Sound}
use Rattle.rules.proofs.Kept.{perform_slots, perform_sound}
use Rattle.flow.specs.declared.Pending.{Pending}
use Rattle.flow.specs.Stream.{no_line, line_size, longer, so_far, held, ended, state_after, taking, closing}
use Rattle.line.proofs.Put.{all_spelled_length}

-- What has to come at the end: nothing after a newline, and otherwise the newline.
pub ended_whole : (p : Pending) → p.len ≡ 0 → closing p ≡ []
unfolding closing
ended_whole p h = rw (eq-eqb p.len 0 h)

pub ended_open : (p : Pending) → (p.len ≡ 0 → ⊥) → closing p ≡ newline ∷ []
unfolding closing
ended_open p h = rw (ne_eqb p.len 0 h)

module _ {K : Type 0} (ed : Edition K) where
  pub held_append : (p : Pending) (xs ys : List ℕ) → held ed p (xs ++ ys) ≡ held ed (held ed p xs) ys
  unfolding held
  held_append p [] ys = refl
  held_append p (b ∷ xs) ys = held_append (choose (eqb b newline) no_line (longer ed p b)) xs ys

  pub ended_append : (p : Pending) (xs ys : List ℕ) → ended ed p (xs ++ ys) ≡ ended ed p xs ++ ended ed (held ed p xs) ys
  unfolding held ended
  ended_append p [] ys = refl
  ended_append p (b ∷ xs) ys = by (eqb b newline) (ended_append no_line xs ys) (ended_append (longer ed p b) xs ys)
    where
      by : (t : Bool) → ended ed no_line (xs ++ ys) ≡ ended ed no_line xs ++ ended ed (held ed no_line xs) ys
          → ended ed (longer ed p b) (xs ++ ys) ≡ ended ed (longer ed p b) xs ++ ended ed (held ed (longer ed p b) xs) ys
          → choose t (so_far p ∷ ended ed no_line (xs ++ ys)) (ended ed (longer ed p b) (xs ++ ys))
          ≡ choose t (so_far p ∷ ended ed no_line xs) (ended ed (longer ed p b) xs) ++ ended ed
          (held ed (choose t no_line (longer ed p b)) xs) ys
      by true h g = ap (◌∷◌ (so_far p)) h
      by false h g = g

  pub state_append : (xs ys : List (List ℕ)) (st : State K) → state_after ed (xs ++ ys) st ≡ state_after ed ys (state_after ed xs st)
  unfolding state_after
  state_append [] ys st = refl
  state_append (l ∷ xs) ys st = state_append xs ys (line_outcome ed (line_command ed l) st).state

  pub respond_append : (xs ys : List (List ℕ)) (st : State K)
      → respond ed (xs ++ ys) st ≡ respond ed xs st ++ respond ed ys (state_after ed xs st)
  unfolding respond state_after
  respond_append [] ys st = refl
  respond_append (l ∷ xs) ys st =
      let o = line_outcome ed (line_command ed l) st in
      ap (◌++◌ (answer_line ed o.answer)) (respond_append xs ys o.state)
      ∙ sym (append_assoc (answer_line ed o.answer) (respond ed xs o.state) (respond ed ys (state_after ed xs o.state)))

  -- Lines leave N as it is, and a sound state sound.
  outcome_slots : (c : Option (Command K)) (st : State K) → (line_outcome ed c st).state.slots ≡ st.slots
  outcome_slots nil st = refl
  outcome_slots (some c) st = perform_slots ed c st

  pub state_slots : (ls : List (List ℕ)) (st : State K) → (state_after ed ls st).slots ≡ st.slots
  unfolding state_after
  state_slots [] st = refl
  state_slots (l ∷ ls) st =
      state_slots ls (line_outcome ed (line_command ed l) st).state ∙ outcome_slots (line_command ed l) st

  -- How many bytes are taken: none where there is no room, and never more than there are.
  pub taking_none : (room : ℕ) (input : List ℕ) → room < line_size ed → taking ed room input ≡ 0
  unfolding taking
  taking_none room [] h = refl
  taking_none room (b ∷ more) h = rw (lt-leb (line_size ed) room h)

  pub taking_more : (room b : ℕ) (more : List ℕ) → line_size ed ≤ room
      → taking ed room (b ∷ more) ≡ suc (choose (eqb b newline) (taking ed (room - line_size ed) more) (taking ed room more))
  unfolding taking
  taking_more room b more h = rw (le-leb (line_size ed) room h)

  pub taking_within : (room : ℕ) (input : List ℕ) → taking ed room input ≤ length input
  unfolding taking
  taking_within room [] = omega arith
  taking_within room (b ∷ more) =
      by (leb (line_size ed) room) (eqb b newline) (taking_within (room - line_size ed) more) (taking_within room more)
    where
      by : (t n : Bool) → taking ed (room - line_size ed) more ≤ length more → taking ed room more ≤ length more
          → choose t (suc (choose n (taking ed (room - line_size ed) more) (taking ed room more))) 0 ≤ suc (length more)
      by true true h g = omega arith
      by true false h g = omega arith
      by false n h g = omega arith

  module _ (laws : Lawful ed) where
    outcome_sound : (c : Option (Command K)) (st : State K) → Sound ed st → Sound ed (line_outcome ed c st).state
    outcome_sound nil st h = h
    outcome_sound (some c) st h = perform_sound ed laws c st h

    pub state_sound : (ls : List (List ℕ)) (st : State K) → Sound ed st → Sound ed (state_after ed ls st)
    unfolding state_after
    state_sound [] st h = h
    state_sound (l ∷ ls) st h =
        state_sound ls (line_outcome ed (line_command ed l) st).state (outcome_sound (line_command ed l) st h)

    -- How many bytes an answer's line has.
    pub answer_length : (a : Answer K) → length (answer_line ed a) ≡ line_size ed
    unfolding answer_line
    answer_length a =
        simp (length-append, all_spelled_length)
        (omega (arith, length-append (ed.spell a.key) (a.value ∷ a.count ∷ []), laws.spell_length a.key))
