-- A line that stands whole in the input: taken at once, it does what its bytes do one by one.
-- Assumes nothing.
use mathlib.Core.Bool.{Bool, true, false}
use mathlib.Core.List.{List, [], ◌∷◌, ◌++◌, append-nil, append_assoc}
use mathlib.Core.Logic.{inl, inr}
use mathlib.Core.Option.{Option, none as nil, some, none-ne-some}
use mathlib.Core.Path.{◌≡◌, refl, sym, ◌∙◌, ap}
use Prim.Native.Nat.{ℕ, ◌+◌, ◌-◌, ◌≤◌, ◌<◌}
use native.Mathlib.Nat.{add-zero, zero-add}
use native.Mathlib.Numerals.{add-one}
use native.Mathlib.Omega.{arith}
use lib.Dec.{eqb, leb}
use lib.ListN.{length, take, drop, get_or, length-append, length-drop}
use lib.Seq.{take-suc, take_all, take-add, drop-drop, length-sets}
use borrow.Author.Tests.{eqb-true, leb-false, lt-ltb, le-leb, lt-leb, eq-eqb, ne_eqb}
use Rattle.rules.specs.Order.{choose}
use Rattle.rules.specs.Edition.{Edition}
use Rattle.rules.specs.Command.{Command}
use Rattle.rules.specs.Perform.{State}
use Rattle.rules.specs.Arena.{WellFormed, over}
use Rattle.rules.specs.Lines.{newline, digit, digits, and_then, command_of, line_command, respond}
use Rattle.rules.proofs.Order.{Lawful}
use Rattle.flow.specs.declared.Pending.{Pending}
use Rattle.flow.specs.declared.Fed.{Fed}
use Rattle.flow.specs.Stream.{command_bytes, line_size, no_line, longer, so_far, held, ended, state_after, taking, front, between, Answered, Stepped}
use Rattle.flow.proofs.Ended.{so_far_length}
use Rattle.flow.proofs.Pieces.{taking_more}
use Rattle.flow.proofs.Taken.{ended_here}
use Rattle.flow.proofs.Onward.{own, still, onward}
use Rattle.flow.proofs.Alike.{Alike, Sized, longer_sized, kept_longer}

-- Bytes without a newline, as the digits of a command are.
data Plain : List ℕ → Type 0 where
  none : Plain []
  then : {b : ℕ} {l : List ℕ} → (b ≡ newline → ⊥) → Plain l → Plain (b ∷ l)

no_digit : digit newline ≡ nil
unfolding digit
no_digit = refl

digits_plain : (l : List ℕ) {ds : List ℕ} → digits l ≡ some ds → Plain l
unfolding digits
digits_plain [] e = none
digits_plain (b ∷ l) {ds} e = by (digit b) refl (digits l) (λ es h. digits_plain l h) e
  where
    by : (d : Option ℕ) → digit b ≡ d → (es : Option (List ℕ)) → ((fs : List ℕ) → es ≡ some fs → Plain l)
        → and_then d es ≡ some ds → Plain (b ∷ l)
    by nil g es h q = absurd (none-ne-some ds q)
    by (some d) g nil h q = absurd (none-ne-some ds q)
    by (some d) g (some es) h q = then (λ n. none-ne-some d (sym no_digit ∙ ap digit (sym n) ∙ g)) (h es refl)

-- What is there after so many bytes and answers, with no byte of a line.
abbrev pub at_start : ℕ → ℕ → Fed
at_start read written = record { pending = no_line; read = read; written = written }

pub to_end : (at : ℕ) (xs : List ℕ) → between at (length xs) xs ≡ drop at xs
to_end at xs = take_all (length xs - at) (drop at xs) (omega (arith, length-drop at xs))

module _ {K : Type 0} (ed : Edition K) where
  command_plain : (l : List ℕ) {c : Command K} → line_command ed l ≡ some c → (length l ≡ command_bytes ed) × Plain l
  unfolding line_command
  command_plain l {c} e = by (eqb (length l) (command_bytes ed)) refl (digits l) refl e
    where
      by : (t : Bool) → eqb (length l) (command_bytes ed) ≡ t → (ds : Option (List ℕ)) → digits l ≡ ds → choose t (command_of ed ds) nil
          ≡ some c
          → (length l ≡ command_bytes ed) × Plain l
      by true g nil h q = absurd (none-ne-some c q)
      by true g (some ds) h q = (eqb-true (length l) (command_bytes ed) g, digits_plain l h)
      by false g ds h q = absurd (none-ne-some c q)

  -- No line ends in such bytes, they are taken where there is room for one answer, and up to as many as a command has are kept.
  none_ended : (p : Pending) {l : List ℕ} → Plain l → ended ed p l ≡ []
  unfolding ended
  none_ended p none = refl
  none_ended p (then {b} h r) = rw (ne_eqb b newline h) (none_ended (longer ed p b) r)

  all_taken : (room : ℕ) (more : List ℕ) {l : List ℕ} → line_size ed ≤ room → Plain l → taking ed room (l ++ more)
      ≡ length l + taking ed room more
  all_taken room more h none = rw zero-add
  all_taken room more h (then {b} {l} g r) =
      taking_more ed room b (l ++ more) h ∙ rw (ne_eqb b newline g) (omega (arith, all_taken room more h r))

  longer_len : (p : Pending) (b : ℕ) → p.len < command_bytes ed → (longer ed p b).len ≡ p.len + 1
  unfolding longer
  longer_len p b h = rw (lt-ltb p.len (command_bytes ed) h)

  -- What stands in front: nothing where the bytes are too few or no newline stands behind those of a command.
  module _ (bytes : List ℕ) where
    pub front_short : length bytes ≤ command_bytes ed → front ed bytes ≡ nil
    unfolding front
    front_short h = rw (le-leb (length bytes) (command_bytes ed) h)

    pub front_other : command_bytes ed < length bytes → (get_or bytes (command_bytes ed) 0 ≡ newline → ⊥) → front ed bytes ≡ nil
    unfolding front
    front_other h g = rw (lt-leb (length bytes) (command_bytes ed) h, ne_eqb (get_or bytes (command_bytes ed) 0) newline g)

    pub front_whole : command_bytes ed < length bytes → get_or bytes (command_bytes ed) 0 ≡ newline
        → front ed bytes ≡ line_command ed (take (command_bytes ed) bytes)
    unfolding front
    front_whole h g = rw (lt-leb (length bytes) (command_bytes ed) h, eq-eqb (get_or bytes (command_bytes ed) 0) newline g)

  -- Where a command stands in front, its bytes are the line and the newline.
  pub record InFront (bytes : List ℕ) (c : Command K) : Type 0 where
    pub long : command_bytes ed < length bytes
    pub line : take (command_bytes ed + 1) bytes ≡ take (command_bytes ed) bytes ++ (newline ∷ [])
    pub asks : line_command ed (take (command_bytes ed) bytes) ≡ some c

  pub in_front : (bytes : List ℕ) {c : Command K} → front ed bytes ≡ some c → InFront bytes c
  unfolding front
  in_front bytes {c} e = by (leb (length bytes) (command_bytes ed)) refl (eqb (get_or bytes (command_bytes ed) 0) newline) refl e
    where
      by : (t : Bool) → leb (length bytes) (command_bytes ed) ≡ t → (n : Bool) → eqb (get_or bytes (command_bytes ed) 0) newline ≡ n
          → choose t nil (choose n (line_command ed (take (command_bytes ed) bytes)) nil) ≡ some c → InFront bytes c
      by true g n h q = absurd (none-ne-some c q)
      by false g true h q =
          let long = leb-false (length bytes) (command_bytes ed) g in
          record {
            long = long;
            line = rw (add-one (command_bytes ed)) (take-suc bytes (command_bytes ed) 0 long)
                ∙ ap (λ (b : ℕ). take (command_bytes ed) bytes ++ (b ∷ [])) (eqb-true (get_or bytes (command_bytes ed) 0) newline h);
            asks = q;
          }
      by false g false h q = absurd (none-ne-some c q)

  module _ (laws : Lawful ed) where
    plain_step : {st : State K} {w out : List ℕ} (read written : ℕ) {l : List ℕ} → WellFormed ed w st → w ≡ over ed st w
        → written + line_size ed ≤ length out → Plain l
        → Stepped ed st w (at_start read written) l out w out
        (record { pending = held ed no_line l; read = read + length l; written = written })
    unfolding respond state_after
    plain_step {out = out} read written f own room h =
        record {
          returned = rw (none_ended no_line h, add-zero written);
          words = rw (none_ended no_line h) own;
          formed = rw (none_ended no_line h) f;
          wrote = rw (none_ended no_line h);
          fits = omega arith;
          going = λ more. all_taken (length out - written) more (omega arith) h;
        }

    module _ (short : ed.width ≤ 2) where
      one_kept : (p : Pending) (b : ℕ) → Sized p → p.len < command_bytes ed → so_far (longer ed p b) ≡ so_far p ++ (b ∷ [])
      one_kept p b s h = by (kept_longer ed short p b s)
        where
          by : Alike ed (so_far (longer ed p b)) (so_far p ++ (b ∷ [])) → so_far (longer ed p b) ≡ so_far p ++ (b ∷ [])
          by (inl e) = e
          by (inr g) = absurd (omega (arith, g.1, length-append (so_far p) (b ∷ []), so_far_length p s))

      all_kept : (p : Pending) {l : List ℕ} → Sized p → p.len + length l ≤ command_bytes ed → Plain l → so_far (held ed p l)
          ≡ so_far p ++ l
      unfolding held
      all_kept p s h none = sym (append-nil (so_far p))
      all_kept p s h (then {b} {l} g r) =
          rw (ne_eqb b newline g)
          (all_kept (longer ed p b) (longer_sized ed p b s) (omega (arith, longer_len p b (omega arith))) r
          ∙ rw (one_kept p b s (omega arith)) (append_assoc (so_far p) (b ∷ []) l))

      -- A line's bytes and its newline.
      pub whole : {st : State K} {w w' out out' : List ℕ} (read written : ℕ) (line : List ℕ) {c : Command K} → line_command ed line ≡ some c
          → WellFormed ed w st → w ≡ over ed st w → written + line_size ed ≤ length out → Answered ed line st w out written w' out'
          → Stepped ed st w (at_start read written) (line ++ (newline ∷ [])) out w' out'
          (at_start (read + (command_bytes ed + 1)) (written + line_size ed))
      unfolding so_far state_after
      whole {st} {w} {w'} {out} {out'} read written line e f own room a =
          let (long, plain) = command_plain line e in
          let kept : so_far (held ed no_line line) ≡ line = all_kept no_line refl (omega arith) plain in
          let same : state_after ed (ended ed no_line line) st ≡ st =
          ap (λ (ls : List (List ℕ)). state_after ed ls st) (none_ended no_line plain) in
          let fed : Fed = record { pending = held ed no_line line; read = read + length line; written = written } in
          let read_so : read + length line + 1 ≡ read + (command_bytes ed + 1) = omega arith in
          let last : Stepped ed (state_after ed (ended ed no_line line) st) w fed (newline ∷ []) out w' out'
          (at_start (read + length line + 1) (written + line_size ed)) =
          rw same (ended_here ed laws fed room (rw kept a)) in
          rw read_so at (onward ed laws (plain_step read written f own room plain) last)

      -- The lines that stand whole, from a place of the input on: none of them yet, and one more.
      module _ {w : List ℕ} (input out : List ℕ) (read written : ℕ) (st : State K) where
        pub none_yet : WellFormed ed w st → w ≡ over ed st w → written ≤ length out
            → Stepped ed st w (at_start read written) (between read read input) out w out (at_start read written)
        none_yet f own h = let none : read - read ≡ 0 = omega arith in rw none (still ed laws out no_line read written f own h)

        pub one_more : {w' w'' out' out'' : List ℕ} (now to : ℕ) {c : Command K}
            → Stepped ed st w (at_start read written) (between read now input) out w' out' (at_start now to)
            → read ≤ now → front ed (drop now input) ≡ some c → to + line_size ed ≤ length out
            → Answered ed (take (command_bytes ed) (drop now input)) (state_after ed (ended ed no_line (between read now input)) st)
            w' out' to w'' out''
            → Stepped ed st w (at_start read written) (between read (now + (command_bytes ed + 1)) input) out w'' out''
            (at_start (now + (command_bytes ed + 1)) (to + line_size ed))
        one_more {w'} {w''} {out'} {out''} now to s h e room a =
            let i = in_front (drop now input) e in
            let same : length out' ≡ length out =
            ap length s.wrote ∙ length-sets out written (respond ed (ended ed no_line (between read now input)) st) in
            let more : now + (command_bytes ed + 1) - read ≡ now - read + (command_bytes ed + 1) = omega arith in
            let place : read + (now - read) ≡ now = omega arith in
            rw (more, take-add (now - read) (command_bytes ed + 1) (drop read input), drop-drop (now - read) read input, place, i.line)
            (onward ed laws s
            (whole now to (take (command_bytes ed) (drop now input)) i.asks s.formed (own ed laws s) (omega arith) a))
