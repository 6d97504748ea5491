-- Bytes taken one after the other: what several goes have done together, and that it is what a call owes once no byte or no room is left.
-- Assumes nothing.
use mathlib.Core.List.{List, [], ◌∷◌, ◌++◌, append_assoc}
use mathlib.Core.Path.{◌≡◌, refl, ◌∙◌, ap}
use Prim.Native.Nat.{ℕ, suc, ◌+◌, ◌-◌, ◌≤◌, ◌<◌, min}
use native.Mathlib.Nat.{zero-add, add-zero, add_assoc, sub-zero}
use native.Mathlib.Numerals.{add-one}
use native.Mathlib.Omega.{arith}
use lib.ListN.{length, take, drop, set, get_or, length-append, length-take, length-drop, take-append-drop, drop_of_length-le}
use lib.Seq.{sets, sets-eq, length-sets, take-add, drop-cons}
use Rattle.rules.specs.Edition.{Edition}
use Rattle.rules.specs.Perform.{State}
use Rattle.rules.specs.Arena.{WellFormed, over}
use Rattle.rules.specs.Lines.{newline, respond}
use Rattle.rules.proofs.Order.{Lawful}
use Rattle.flow.specs.declared.Pending.{Pending}
use Rattle.flow.specs.declared.Fed.{Fed}
use Rattle.flow.specs.Stream.{line_size, no_line, held, ended, state_after, taking, between, After, fed_with, feeding, Stepped}
use Rattle.flow.proofs.Pieces.{taking_none}
use Rattle.flow.proofs.Took.{Took, took_own, both}

-- Bytes that are written behind others.
sets_sets : (l : List ℕ) (i : ℕ) (xs ys : List ℕ) → sets (sets l i xs) (i + length xs) ys ≡ sets l i (xs ++ ys)
sets_sets l i [] ys = rw add-zero
sets_sets l i (x ∷ xs) ys =
    let e : i + suc (length xs) ≡ suc i + length xs = omega arith in
    rw e (sets_sets (set l i x) (suc i) xs ys)

-- The bytes from a place on are the first of them and the others.
pub between_more : (n m : ℕ) (input : List ℕ) → n < length input → n < m → between n m input ≡ get_or input n 0 ∷ between (suc n) m input
between_more n m input h g =
    let more : m - n ≡ suc (m - suc n) = omega arith in
    rw (more, drop-cons input n 0 h)

module _ {K : Type 0} (ed : Edition K) where
  -- What the loop over the input has done, up to a place in it.
  pub record Reached (p : Pending) (input out w : List ℕ) (st : State K) (w' out' : List ℕ) (fed : Fed) : Type 0 where
    pub within : fed.read ≤ length input
    pub so : Stepped ed st w (record { pending = p; read = 0; written = 0 }) (take fed.read input) out w' out' fed

module _ {K : Type 0} (ed : Edition K) (laws : Lawful ed) where
  -- What a go did, without its buffer.
  took : {st : State K} {w bytes out w' out' : List ℕ} {fed fed' : Fed} → Stepped ed st w fed bytes out w' out' fed'
      → Took ed fed.pending w st bytes (respond ed (ended ed fed.pending bytes) st) fed'.pending w'
  took s = record { line = ap (λ (f : Fed). f.pending) s.returned; bytes = refl; words = s.words; formed = s.formed }

  -- The words that a go leaves are those of the state that it leaves.
  pub own : {st : State K} {w bytes out w' out' : List ℕ} {fed fed' : Fed} → Stepped ed st w fed bytes out w' out' fed'
      → w' ≡ over ed (state_after ed (ended ed fed.pending bytes) st) w'
  own s = took_own ed laws (took s)

  -- No byte.
  pub still : {st : State K} {w : List ℕ} (out : List ℕ) (p : Pending) (read written : ℕ)
      → WellFormed ed w st → w ≡ over ed st w → written ≤ length out
      → let fed : Fed = record { pending = p; read = read; written = written } in Stepped ed st w fed [] out w out fed
  unfolding held ended respond state_after
  still out p read written f own h =
      record {
        returned = rw (add-zero read, add-zero written);
        words = own;
        formed = f;
        wrote = refl;
        fits = h;
        going = λ more. rw zero-add;
      }

  -- One go, and then another.
  pub onward : {st : State K} {w xs out v mid ys u out' : List ℕ} {fed fed₁ fed₂ : Fed} → Stepped ed st w fed xs out v mid fed₁
      → Stepped ed (state_after ed (ended ed fed.pending xs) st) v fed₁ ys mid u out' fed₂
      → Stepped ed st w fed (xs ++ ys) out u out' fed₂
  onward {st} {w} {xs} {out} {v} {mid} {ys} {u} {out'} {fed} {fed₁} {fed₂} s t =
      let now = state_after ed (ended ed fed.pending xs) st in
      let first = respond ed (ended ed fed.pending xs) st in
      let second = respond ed (ended ed fed₁.pending ys) now in
      let b = both ed laws (took s) (took t) in
      let long : length mid ≡ length out = ap length s.wrote ∙ length-sets out fed.written first in
      let read₁ : fed₁.read ≡ fed.read + length xs = ap (λ (f : Fed). f.read) s.returned in
      let written₁ : fed₁.written ≡ fed.written + length first = ap (λ (f : Fed). f.written) s.returned in
      let size : length (respond ed (ended ed fed.pending (xs ++ ys)) st) ≡ length first + length second =
      rw (← b.bytes) (length-append first second) in
      record {
        returned = rw (t.returned, ← b.line, t.returned, size, length-append xs ys, read₁, written₁) (simp add_assoc);
        words = b.words;
        formed = b.formed;
        wrote = t.wrote ∙ rw (s.wrote, written₁, ← b.bytes) (sets_sets out fed.written first second);
        fits = rw (← long) t.fits;
        going = λ more.
            rw (append_assoc xs ys more, length-append xs ys)
            (s.going (ys ++ more) ∙ omega (arith, rw long at (t.going more)));
      }

  -- A go does not go back.
  pub no_less : {st : State K} {w bytes out w' out' : List ℕ} {fed fed' : Fed} → Stepped ed st w fed bytes out w' out' fed'
      → fed.read ≤ fed'.read
  no_less s = omega (arith, ap (λ (f : Fed). f.read) s.returned)

  -- The byte at a place is taken, and then what follows up to another place.
  module _ (input : List ℕ) {st : State K} {w out v mid : List ℕ} {fed fed₁ : Fed} (h : fed.read < length input)
      (s : Stepped ed st w fed (get_or input fed.read 0 ∷ []) out v mid fed₁) where
    pub one_read : fed₁.read ≡ suc fed.read
    one_read = ap (λ (f : Fed). f.read) s.returned ∙ add-one fed.read

    pub one_byte : Stepped ed st w fed (between fed.read fed₁.read input) out v mid fed₁
    one_byte =
        let none : fed₁.read - suc fed.read ≡ 0 = omega (arith, one_read) in
        rw (between_more fed.read fed₁.read input h (omega (arith, one_read)), none) s

    pub ended_line : get_or input fed.read 0 ≡ newline → fed₁.pending ≡ no_line
    unfolding held
    ended_line e = ap (λ (f : Fed). f.pending) s.returned ∙ rw e

    pub then_lines : {u out' : List ℕ} {fed₂ : Fed}
        → Stepped ed (state_after ed (ended ed fed.pending (get_or input fed.read 0 ∷ [])) st) v fed₁
        (between fed₁.read fed₂.read input) mid u out' fed₂
        → Stepped ed st w fed (between fed.read fed₂.read input) out u out' fed₂
    then_lines {fed₂ = fed₂} t =
        rw (between_more fed.read fed₂.read input h (omega (arith, one_read, no_less t)), ← one_read) (onward s t)

  module _ (p : Pending) (input out w : List ℕ) (st : State K) where
    pub begun : WellFormed ed w st → w ≡ over ed st w
        → Reached ed p input out w st w out (record { pending = p; read = 0; written = 0 })
    begun f own = record { within = omega arith; so = still out p 0 0 f own (omega arith) }

    -- The state there.
    abbrev state_at : ℕ → State K
    state_at n = state_after ed (ended ed p (take n input)) st

    pub reach : {w₁ w₂ out₁ out₂ : List ℕ} {fed fed' : Fed} → Reached ed p input out w st w₁ out₁ fed
        → Stepped ed (state_at fed.read) w₁ fed (between fed.read fed'.read input) out₁ w₂ out₂ fed'
        → Reached ed p input out w st w₂ out₂ fed'
    reach {fed = fed} {fed' = fed'} r s =
        let n = fed.read in
        let m = fed'.read in
        let size : length (between n m input) ≡ min (m - n) (length input - n) = simp (length-take, length-drop) in
        let to : m ≡ n + length (between n m input) = ap (λ (f : Fed). f.read) s.returned in
        let place : m ≡ n + (m - n) = omega arith in
        let up_to : take m input ≡ take n input ++ between n m input = ap (λ (k : ℕ). take k input) place ∙ take-add n (m - n) input in
        record { within = omega (arith, r.within); so = rw up_to (onward r.so s) }

    -- The loop ends where no byte is taken any more.
    over_at : {w₁ out₁ : List ℕ} {fed : Fed} (n : ℕ) → n ≤ length input
        → Stepped ed st w (record { pending = p; read = 0; written = 0 }) (take n input) out w₁ out₁ fed
        → taking ed (length out - fed.written) (drop n input) ≡ 0
        → ◌≡◌ {A = After} (record { returned = fed; arena = w₁; out = out₁ }) (feeding ed p input out w st)
    unfolding fed_with
    over_at {w₁} {out₁} {fed} n h s e =
        let answers = respond ed (ended ed p (take n input)) st in
        let long : length (take n input) ≡ n = simp length-take (omega arith) in
        let all : taking ed (length out) input ≡ n =
        omega (arith, long, rw (take-append-drop n input, sub-zero (length out)) at (s.going (drop n input))) in
        let room : 0 + length answers ≤ length out = omega (arith, s.fits, ap (λ (f : Fed). f.written) s.returned) in
        let placed : sets out 0 answers ≡ answers ++ drop (length answers) out =
        sets-eq answers out 0 room ∙ ap (λ (k : ℕ). answers ++ drop k out) (zero-add (length answers)) in
        rw (all, s.returned, s.words, s.wrote, long, zero-add n, zero-add (length answers), placed)

    pub over_now : {w₁ out₁ : List ℕ} {fed : Fed} → Reached ed p input out w st w₁ out₁ fed → taking ed (length out - fed.written)
        (drop fed.read input) ≡ 0
        → ◌≡◌ {A = After} (record { returned = fed; arena = w₁; out = out₁ }) (feeding ed p input out w st)
    over_now {fed = fed} r e = over_at fed.read r.within r.so e

  pub no_byte : (room n : ℕ) (input : List ℕ) → length input ≤ n → taking ed room (drop n input) ≡ 0
  unfolding taking
  no_byte room n input h = rw (drop_of_length-le input h)

  pub no_room : (all written : ℕ) (input : List ℕ) → all < written + line_size ed → taking ed (all - written) input ≡ 0
  no_room all written input h = taking_none ed (all - written) input (omega arith)
