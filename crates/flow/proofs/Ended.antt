-- What a line that has ended says, from what was kept of it; and that it was answered.
-- Assumes nothing.
use mathlib.Core.List.{List, [], ◌∷◌}
use mathlib.Core.Option.{none as nil, some}
use mathlib.Core.Path.{◌≡◌, ◌∙◌}
use Prim.Native.Nat.{ℕ, ◌≤◌, min}
use native.Mathlib.Omega.{arith}
use lib.ListN.{length, take, length-append, length-take}
use lib.Seq.{take-append-le, sets}
use borrow.Author.Tests.{ne_eqb}
use Rattle.rules.specs.Edition.{Edition, edition, Width, Small}
use Rattle.rules.specs.Command.{Command, code_number}
use Rattle.rules.specs.Perform.{State, perform}
use Rattle.rules.specs.Arena.{WellFormed, over}
use Rattle.rules.specs.Lines.{line_command, answer_line}
use Rattle.rules.proofs.Order.{edition_lawful}
use Rattle.rules.proofs.WellFormed.{the_words}
use Rattle.heads.specs.Did.{Did}
use Rattle.heads.specs.declared.answer.Answer.{Answer}
use Rattle.heads.specs.Worded.{code_of}
use Rattle.line.specs.Write.{line_of_words}
use Rattle.flow.specs.declared.Pending.{Pending}
use Rattle.flow.specs.Stream.{command_bytes, so_far, Answered}

pub so_far_length : (p : Pending) → length p.bytes ≡ 32 → length (so_far p) ≡ min p.len 33
unfolding so_far
so_far_length p e = simp (length-take, length-append, e)

module _ {K : Type 0} (ed : Edition K) where
  -- A line that has not as many bytes as a command is none.
  pub other_length : (l : List ℕ) → (length l ≡ command_bytes ed → ⊥) → line_command ed l ≡ nil
  unfolding line_command
  other_length l h = rw (ne_eqb (length l) (command_bytes ed) h)

  -- As many bytes were kept as a command has: they are the line. Any other number, and the line says nothing.
  module _ (short : ed.width ≤ 2) (p : Pending) (e : length p.bytes ≡ 32) where
    pub whole : p.len ≡ command_bytes ed → so_far p ≡ take (command_bytes ed) p.bytes
    unfolding so_far
    whole h = rw h (take-append-le (command_bytes ed) p.bytes (0 ∷ []) (omega arith))

    pub not_whole : (p.len ≡ command_bytes ed → ⊥) → line_command ed (so_far p) ≡ nil
    not_whole h = other_length (so_far p) (λ q. h (omega (arith, so_far_length p e)))

-- The words of a well-formed arena are those of its state.
pub own_words : {wd : ℕ} → Width wd → (w : List ℕ) → Small w → {st : State ℕ} → WellFormed (edition wd) w st → w ≡ over (edition wd) st w
own_words v w m f = the_words (edition _) (edition_lawful v) w m f

-- The answer's line is written: of a bad line, and of a command that was done.
module _ {wd : ℕ} (line : List ℕ) {st : State ℕ} {w out out' : List ℕ} {at : ℕ} where
  pub answered_bad : line_command (edition wd) line ≡ nil → WellFormed (edition wd) w st → w ≡ over (edition wd) st w
      → out' ≡ sets out at (line_of_words wd 15 0 0 0) → Answered (edition wd) line st w out at w out'
  unfolding answer_line
  answered_bad e f own b = record { words = rw e own; formed = rw e f; bytes = rw e b }

  pub answered_by : {K : Type 0} {number : K → ℕ} {c : Command ℕ} {w' : List ℕ} {r : Answer K} {code : ℕ}
      → line_command (edition wd) line ≡ some c → Did number wd (perform (edition wd) c st) w w' r → code ≡ code_number (code_of r.code)
      → out' ≡ sets out at (line_of_words wd code (number r.key) r.value r.count) → Answered (edition wd) line st w out at w' out'
  unfolding answer_line
  answered_by e d q b =
      record {
        words = rw e d.words;
        formed = rw e d.formed;
        bytes = rw e (b ∙ rw (q, d.says.code, d.says.key, d.says.value, d.says.count));
      }
