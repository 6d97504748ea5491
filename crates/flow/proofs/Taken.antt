-- One byte: what a step of the stream leaves.
-- Assumes nothing.
use mathlib.Core.List.{List, [], ◌∷◌, append-nil}
use mathlib.Core.Path.{◌≡◌, ◌∙◌}
use Prim.Native.Nat.{ℕ, ◌+◌, ◌-◌, ◌≤◌}
use native.Mathlib.Omega.{arith}
use lib.ListN.{length}
use native.Mathlib.Nat.{add-zero}
use borrow.Author.Tests.{ne_eqb}
use Rattle.rules.specs.Edition.{Edition}
use Rattle.rules.specs.Perform.{State}
use Rattle.rules.specs.Arena.{WellFormed, over}
use Rattle.rules.specs.Lines.{newline, answer_line, respond, line_outcome, line_command}
use Rattle.rules.proofs.Order.{Lawful}
use Rattle.flow.specs.declared.Pending.{Pending}
use Rattle.flow.specs.declared.Fed.{Fed}
use Rattle.flow.specs.Stream.{line_size, no_line, longer, so_far, held, ended, state_after, Answered, Stepped}
use Rattle.flow.proofs.Pieces.{answer_length, taking_more}

module _ {K : Type 0} (ed : Edition K) (laws : Lawful ed) where
  -- A newline: the line is answered, and the next has no byte yet.
  pub ended_here : {st : State K} {w w' out out' : List ℕ} (fed : Fed) → fed.written + line_size ed ≤ length out
      → Answered ed (so_far fed.pending) st w out fed.written w' out'
      → Stepped ed st w fed (newline ∷ []) out w' out'
      (record { pending = no_line; read = fed.read + 1; written = fed.written + line_size ed })
  unfolding held ended respond state_after
  ended_here {st} {out = out} fed room h =
      let a = (line_outcome ed (line_command ed (so_far fed.pending)) st).answer in
      let less : length out - (fed.written + line_size ed) ≡ length out - fed.written - line_size ed = omega arith in
      record {
        returned = rw (append-nil (answer_line ed a), answer_length ed laws a);
        words = h.words;
        formed = h.formed;
        wrote = h.bytes ∙ rw (append-nil (answer_line ed a));
        fits = room;
        going = λ more. taking_more ed (length out - fed.written) newline more (omega arith) ∙ rw less (omega arith);
      }

  pub step_ended : {st : State K} {w w' out out' : List ℕ} (fed : Fed) (b : ℕ) {q : Pending} → b ≡ newline → q ≡ no_line
      → fed.written + line_size ed ≤ length out → Answered ed (so_far fed.pending) st w out fed.written w' out'
      → Stepped ed st w fed (b ∷ []) out w' out'
      (record { pending = q; read = fed.read + 1; written = fed.written + line_size ed })
  step_ended fed b e g room h = rw (e, g) (ended_here fed room h)

  -- Any other byte: the line is longer, and nothing else happens.
  pub step_longer : {st : State K} {w : List ℕ} (out : List ℕ) (fed : Fed) (b : ℕ) {q : Pending} → (b ≡ newline → ⊥)
      → q ≡ longer ed fed.pending b → fed.written + line_size ed ≤ length out → WellFormed ed w st → w ≡ over ed st w
      → Stepped ed st w fed (b ∷ []) out w out (record { pending = q; read = fed.read + 1; written = fed.written })
  unfolding held ended respond state_after
  step_longer out fed b h g room f own =
      record {
        returned = rw (ne_eqb b newline h, g, add-zero);
        words = rw (ne_eqb b newline h) own;
        formed = rw (ne_eqb b newline h) f;
        wrote = rw (ne_eqb b newline h);
        fits = omega arith;
        going = λ more. taking_more ed (length out - fed.written) b more (omega arith) ∙ rw (ne_eqb b newline h) (omega arith);
      }
