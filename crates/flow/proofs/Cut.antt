-- "It makes no difference where reads cut the input": calls of feed that take the whole input, cut anywhere, and then finish write what the
-- rules say of the input, and leave the words of the state that its lines leave. Assumes nothing.
use mathlib.Core.Bool.{Bool, true, false}
use mathlib.Core.List.{List, [], ◌∷◌, ◌++◌}
use mathlib.Core.Path.{◌≡◌, refl, ◌∙◌, ap}
use Prim.Native.Nat.{ℕ, ◌≤◌}
use lib.Dec.{eqb}
use lib.ListN.{length, take, drop}
use lib.Seq.{take_at}
use borrow.Author.Tests.{le-leb}
use Rattle.rules.specs.Order.{choose}
use Rattle.rules.specs.Edition.{Edition, Small}
use Rattle.rules.specs.Perform.{State, new}
use Rattle.rules.specs.Arena.{WellFormed, over}
use Rattle.rules.specs.Calls.{well_formed, damaged}
use Rattle.rules.specs.Lines.{newline, respond, lines, output}
use Rattle.rules.proofs.Order.{Lawful}
use Rattle.rules.proofs.WellFormed.{sound, the_state, the_words}
use Rattle.rules.proofs.Words.{over_formed}
use Rattle.flow.specs.declared.Pending.{Pending}
use Rattle.flow.specs.Stream.{line_size, no_line, held, ended, state_after, taking, Given, served, fed_of, fed_with, feeding, Feeds, closing}
use Rattle.flow.proofs.Pieces.{ended_append, state_slots, state_sound}
use Rattle.flow.proofs.Took.{Took, took_own, both}
use Rattle.flow.proofs.Alike.{same_answers, same_state, no_line_alike, whole_lines}

module _ {K : Type 0} (ed : Edition K) where
  -- Calls of feed one after the other on one arena, each with an input and a buffer of its own: from a line that is not ended and the
  -- arena's words to others, with the bytes that they took and the bytes that they wrote.
  pub data Calls : Pending → List ℕ → List ℕ → List ℕ → Pending → List ℕ → Type 0 where
    none : {p : Pending} {w : List ℕ} → Calls p w [] [] p w
    call : {p p' : Pending} {w w' taken written : List ℕ} (input out : List ℕ) (given : Given) → Feeds ed p input out w given
        → Calls (fed_of p given.returned).pending given.arena taken written p' w'
        → Calls p w (take (fed_of p given.returned).read input ++ taken) (take (fed_of p given.returned).written given.out ++ written) p' w'

  -- A well-formed arena is served.
  pub it_served : (p : Pending) (input out : List ℕ) {w : List ℕ} {given : Given} {st : State K} → WellFormed ed w st
      → Feeds ed p input out w given
      → given ≡ served (feeding ed p input out w st)
  it_served p input out {w} f (well_formed st' f' e) =
      e ∙ ap (λ (st : State K). served (feeding ed p input out w st)) (the_state ed f' f)
  it_served p input out {st = st} f (damaged no_state e) = absurd (no_state st f)

  -- With room for a line, the end of the input is taken.
  all_taken : (room : ℕ) (p : Pending) → line_size ed ≤ room → take (taking ed room (closing p)) (closing p) ≡ closing p
  unfolding closing taking
  all_taken room p h = by (eqb p.len 0)
    where
      by : (t : Bool) → let c = choose t [] (newline ∷ []) in take (taking ed room c) c ≡ c
      by true = refl
      by false = rw (le-leb (line_size ed) room h)

  module _ (laws : Lawful ed) where
    one_call : (p : Pending) (input out w : List ℕ) (st : State K) → WellFormed ed w st
        → let g = feeding ed p input out w st in
        Took ed p w st (take g.returned.read input) (take g.returned.written g.out) g.returned.pending g.arena
    unfolding fed_with
    one_call p input out w st f =
        let ls = ended ed p (take (taking ed (length out) input) input) in
        let answers = respond ed ls st in
        record {
          line = refl;
          bytes = take_at answers (drop (length answers) out) (length answers) refl;
          words = refl;
          formed = over_formed ed laws (state_sound ed laws ls st (sound ed f)) w (rw (state_slots ed ls st) f.long);
        }

    one_took : (p : Pending) (input out : List ℕ) {w : List ℕ} {given : Given} {st : State K} → WellFormed ed w st
        → Feeds ed p input out w given
        → Took ed p w st (take (fed_of p given.returned).read input) (take (fed_of p given.returned).written given.out)
        (fed_of p given.returned).pending given.arena
    one_took p input out {w} {st = st} f g = rw (it_served p input out f g) (one_call p input out w st f)

    -- From words that are those of their state.
    pub calls_took : {p p' : Pending} {w w' taken written : List ℕ} {st : State K} → Calls p w taken written p' w' → WellFormed ed w st
        → w ≡ over ed st w → Took ed p w st taken written p' w'
    unfolding held ended respond state_after
    calls_took none f own = record { line = refl; bytes = refl; words = own; formed = f }
    calls_took {p} {st = st} (call input out given g more) f own =
        let o = one_took p input out f g in both ed laws o (calls_took more o.formed (took_own ed laws o))

    -- THE THEOREM. On an arena newly made with n slots, whose words are words: calls of feed from no line on that take the input, and then
    -- finish with room for a line. What they wrote is the output of the rules, and the arena's words are those of the state that the lines
    -- leave.
    pub cut : {w w' input written : List ℕ} {p : Pending} (n : ℕ) (out : List ℕ) (given : Given) → ed.width ≤ 2 → Small w
        → WellFormed ed w (new n) → Calls no_line w input written p w' → line_size ed ≤ length out → Feeds ed p (closing p) out w' given
        → (written ++ take (fed_of p given.returned).written given.out ≡ output ed n input)
        × (given.arena ≡ over ed (state_after ed (lines input) (new n)) w)
    unfolding output lines fed_with
    cut {w} {w'} {input} {written} {p} n out given short small f calls room g =
        let s = calls_took calls f (the_words ed laws w small f) in
        let rest = take (fed_of p given.returned).read (closing p) in
        let t = both ed laws s (one_took p (closing p) out s.formed g) in
        let ended_so : rest ≡ closing (held ed no_line input) =
        ap (λ (a : Given). take (fed_of p a.returned).read (closing p)) (it_served p (closing p) out s.formed g)
        ∙ all_taken (length out) p room
        ∙ ap closing s.line in
        let same : ended ed no_line (input ++ rest) ≡ ended ed no_line input ++ ended ed (held ed no_line input)
        (closing (held ed no_line input)) =
        ended_append ed no_line input rest ∙ ap (λ (l : List ℕ). ended ed no_line input ++ ended ed (held ed no_line input) l) ended_so in
        let alike = whole_lines ed short no_line [] input refl (no_line_alike ed) in (
          t.bytes ∙ ap (λ (ls : List (List ℕ)). respond ed ls (new n)) same ∙ same_answers ed alike (new n),
          t.words ∙ ap (λ (ls : List (List ℕ)). over ed (state_after ed ls (new n)) w) same
              ∙ ap (λ (st : State K). over ed st w) (same_state ed alike (new n)),
        )
