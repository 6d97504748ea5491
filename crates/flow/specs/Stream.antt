-- What the line program owes for a piece of its input: the bytes that it takes, the lines that end in them, their answers, and what it has
-- to remember. All of it is said once, for any edition.
use Rattle.std.specs.Prelude.{List, [], ◌∷◌, ◌++◌, Result, Ok, Err, ◌≡◌, ℕ, suc, ◌+◌, ◌-◌, ◌*◌, ◌≤◌, eqb, leb, ltb, length, take, drop, set, get_or, replicate}
use Rattle.std.proofs.Math.Option.{Option, none as nil}
use Rattle.std.proofs.lemmas.List.Edits.{sets}
use Rattle.rules.specs.Order.{choose}
use Rattle.rules.specs.Edition.{Edition}
use Rattle.rules.specs.Command.{Command, command_size, answer_size}
use Rattle.rules.specs.Perform.{State}
use Rattle.rules.specs.Arena.{WellFormed, over}
use Rattle.rules.specs.Calls.{Checked}
use Rattle.rules.specs.Lines.{newline, line_command, line_outcome, answer_line, respond}
use Rattle.heads.specs.declared.refusal.Refusal.{Refusal}
use Rattle.heads.specs.declared.refusal.Refusal.TheVariants as refusal
use Rattle.flow.specs.declared.Pending.{Pending}
use Rattle.flow.specs.declared.Fed.{Fed}

-- No byte of a line yet.
abbrev pub no_line : Pending
no_line = record { bytes = replicate 32 0; len = 0 }

-- The bytes of the line that is not ended. Where it is too long this is a line that is too long.
unfoldable pub so_far : Pending → List ℕ
so_far p = take p.len (p.bytes ++ (0 ∷ []))

-- What still has to come when the input has ended: the newline of a line that lacks it.
unfoldable pub closing : Pending → List ℕ
closing p = choose (eqb p.len 0) [] (newline ∷ [])

-- The bytes of the input from place n up to m.
abbrev pub between : ℕ → ℕ → List ℕ → List ℕ
between n m input = take (m - n) (drop n input)

-- What a call on a well-formed arena leaves: what it did, the arena's words and the bytes of the output buffer.
pub record After : Type 0 where
  pub returned : Fed
  pub arena : List ℕ
  pub out : List ℕ

-- What a call gives: what it did, or why nothing was taken.
pub record Given : Type 0 where
  pub returned : Result Fed Refusal
  pub arena : List ℕ
  pub out : List ℕ

abbrev pub served : After → Given
served a = record { returned = Ok a.returned; arena = a.arena; out = a.out }

-- What a call did, by what it gave: a call that was refused has taken and written nothing, and the line that is not ended is as it was.
abbrev pub fed_of : Pending → Result Fed Refusal → Fed
fed_of p (Ok fed) = fed
fed_of p (Err why) = record { pending = p; read = 0; written = 0 }

-- Where the arena is not well formed nothing is taken, and nothing changes.
abbrev pub unfed : List ℕ → List ℕ → Given
unfed out w = record { returned = Err refusal.Damaged; arena = w; out = out }

module _ {K : Type 0} (ed : Edition K) where
  -- The bytes of a command's line, and of an answer's line with its newline.
  abbrev pub command_bytes : ℕ
  command_bytes = 8 * command_size ed

  abbrev pub line_size : ℕ
  line_size = 8 * answer_size ed + 1

  -- The line with one byte more: as many are kept as a command has, and of a longer line that it is too long.
  unfoldable pub longer : Pending → ℕ → Pending
  longer p b =
      choose (ltb p.len command_bytes)
      (record { bytes = set p.bytes p.len b; len = p.len + 1 })
      (record { bytes = p.bytes; len = command_bytes + 1 })

  -- The line that is not ended after so many bytes more, and the lines that end in them.
  unfoldable pub held : Pending → List ℕ → Pending
  held p [] = p
  held p (b ∷ more) = held (choose (eqb b newline) no_line (longer p b)) more

  unfoldable pub ended : Pending → List ℕ → List (List ℕ)
  ended p [] = []
  ended p (b ∷ more) = choose (eqb b newline) (so_far p ∷ ended no_line more) (ended (longer p b) more)

  -- What lines in order leave.
  unfoldable pub state_after : List (List ℕ) → State K → State K
  state_after [] st = st
  state_after (line ∷ more) st = state_after more (line_outcome ed (line_command ed line) st).state

  -- How many bytes of the input are taken where there is room for so many bytes of answers: one more as long as an answer has room.
  unfoldable pub taking : ℕ → List ℕ → ℕ
  taking room [] = 0
  taking room (b ∷ more) =
      choose (leb line_size room) (suc (choose (eqb b newline) (taking (room - line_size) more) (taking room more))) 0

  -- After n bytes of the input. The answers stand one after the other, and what lies beyond them stays.
  unfoldable pub fed_with : ℕ → Pending → List ℕ → List ℕ → List ℕ → State K → After
  fed_with n p input out w st =
      let ls = ended p (take n input) in
      let answers = respond ed ls st in
      record {
        returned = record { pending = held p (take n input); read = n; written = length answers };
        arena = over ed (state_after ls st) w;
        out = answers ++ drop (length answers) out;
      }

  abbrev pub feeding : Pending → List ℕ → List ℕ → List ℕ → State K → After
  feeding p input out w st = fed_with (taking (length out) input) p input out w st

  -- A call that is fed the input, with an output buffer and the arena w, gives `given`.
  abbrev pub Feeds : Pending → List ℕ → List ℕ → List ℕ → Given → Type 0
  Feeds p input out w given = Checked ed w (λ (st : State K). served (feeding p input out w st)) (unfed out w) given

  -- The line was answered: its command done on the arena w, and the answer's line written at a place of the output buffer.
  pub record Answered (line : List ℕ) (st : State K) (w out : List ℕ) (at : ℕ) (w' out' : List ℕ) : Type 0 where
    pub words : w' ≡ over ed (line_outcome ed (line_command ed line) st).state w
    pub formed : WellFormed ed w' (line_outcome ed (line_command ed line) st).state
    pub bytes : out' ≡ sets out at (answer_line ed (line_outcome ed (line_command ed line) st).answer)

  -- The command of a line that stands whole at the front of the bytes, with its newline.
  unfoldable pub front : List ℕ → Option (Command K)
  front bytes =
      choose (leb (length bytes) command_bytes) nil
      (choose (eqb (get_or bytes command_bytes 0) newline) (line_command ed (take command_bytes bytes)) nil)

  -- So many bytes were taken, their lines answered behind what was written before, and no byte was taken without room for an answer.
  pub record Stepped (st : State K) (w : List ℕ) (fed : Fed) (bytes out w' out' : List ℕ) (fed' : Fed) : Type 0 where
    pub returned : fed'
        ≡ record {
          pending = held fed.pending bytes;
          read = fed.read + length bytes;
          written = fed.written + length (respond ed (ended fed.pending bytes) st);
        }
    pub words : w' ≡ over ed (state_after (ended fed.pending bytes) st) w
    pub formed : WellFormed ed w' (state_after (ended fed.pending bytes) st)
    pub wrote : out' ≡ sets out fed.written (respond ed (ended fed.pending bytes) st)
    pub fits : fed'.written ≤ length out
    pub going : (more : List ℕ)
        → taking (length out - fed.written) (bytes ++ more) ≡ length bytes + taking (length out - fed'.written) more
