-- Two lines of more bytes than a command has are alike: they are bad, whatever they hold. So what was kept of a line stands for the line,
-- and the lines that end in the bytes, as they were kept, for the lines of the rules. Assumes nothing.
use mathlib.Core.Bool.{Bool, true, false}
use mathlib.Core.List.{List, [], ◌∷◌, ◌++◌}
use mathlib.Core.Logic.{◌⊎◌, inl, inr}
use mathlib.Core.Option.{none as nil}
use mathlib.Core.Path.{◌≡◌, refl, sym, ◌∙◌, ap}
use Prim.Native.Nat.{ℕ, zero, suc, ◌+◌, ◌≤◌, ◌<◌}
use native.Mathlib.Numerals.{add-one}
use native.Mathlib.Omega.{arith}
use lib.Dec.{eqb, ltb}
use lib.ListN.{length, set, length-append, length-set}
use lib.Seq.{take-append-le, take-suc-set}
use borrow.Author.Tests.{ltb-true, ltb-false}
use Rattle.rules.specs.Order.{choose}
use Rattle.rules.specs.Edition.{Edition}
use Rattle.rules.specs.Perform.{State}
use Rattle.rules.specs.Lines.{newline, line_command, line_outcome, answer_line, respond, lines_after, unfinished}
use Rattle.flow.specs.declared.Pending.{Pending}
use Rattle.flow.specs.Stream.{command_bytes, no_line, longer, so_far, held, ended, state_after, closing}
use Rattle.flow.proofs.Ended.{other_length, so_far_length}
use Rattle.flow.proofs.Pieces.{ended_whole, ended_open}

-- 32 bytes are kept.
abbrev pub Sized : Pending → Type 0
Sized p = length p.bytes ≡ 32

module _ {K : Type 0} (ed : Edition K) where
  -- The same line, or both too long.
  abbrev pub Alike : List ℕ → List ℕ → Type 0
  Alike l m = (l ≡ m) ⊎ ((command_bytes ed < length l) × (command_bytes ed < length m))

  alike_trans : {k l m : List ℕ} → Alike k l → Alike l m → Alike k m
  alike_trans (inl e) (inl g) = inl (e ∙ g)
  alike_trans (inl e) (inr h) = inr (rw e h.0, h.1)
  alike_trans (inr h) (inl g) = inr (h.0, rw (← g) h.1)
  alike_trans (inr h) (inr g) = inr (h.0, g.1)

  long_is_bad : (l : List ℕ) → command_bytes ed < length l → line_command ed l ≡ nil
  long_is_bad l h = other_length ed l (λ e. omega arith)

  same_command : {l m : List ℕ} → Alike l m → line_command ed l ≡ line_command ed m
  same_command (inl e) = ap (line_command ed) e
  same_command {l} {m} (inr h) = long_is_bad l h.0 ∙ sym (long_is_bad m h.1)

  alike_longer : {l m : List ℕ} (b : ℕ) → Alike l m → Alike (l ++ (b ∷ [])) (m ++ (b ∷ []))
  alike_longer b (inl e) = inl (ap (λ (l : List ℕ). l ++ (b ∷ [])) e)
  alike_longer {l} {m} b (inr h) = inr (simp length-append (omega arith), simp length-append (omega arith))

  -- Lines that are alike one by one: the answers and the state after them are the same.
  pub data AllAlike : List (List ℕ) → List (List ℕ) → Type 0 where
    none : AllAlike [] []
    then : {l m : List ℕ} {ls ms : List (List ℕ)} → Alike l m → AllAlike ls ms → AllAlike (l ∷ ls) (m ∷ ms)

  pub same_answers : {ls ms : List (List ℕ)} → AllAlike ls ms → (st : State K) → respond ed ls st ≡ respond ed ms st
  unfolding respond
  same_answers none st = refl
  same_answers (then {l} {m} {ls} {ms} h r) st =
      let o = line_outcome ed (line_command ed m) st in
      rw (same_command h) (ap (◌++◌ (answer_line ed o.answer)) (same_answers r o.state))

  pub same_state : {ls ms : List (List ℕ)} → AllAlike ls ms → (st : State K) → state_after ed ls st ≡ state_after ed ms st
  unfolding state_after
  same_state none st = refl
  same_state (then {l} {m} {ls} {ms} h r) st = rw (same_command h) (same_state r (line_outcome ed (line_command ed m) st).state)

  pub longer_sized : (p : Pending) (b : ℕ) → Sized p → Sized (longer ed p b)
  unfolding longer
  longer_sized p b h = by (ltb p.len (command_bytes ed))
    where
      by : (t : Bool)
          → Sized (choose t (record { bytes = set p.bytes p.len b; len = p.len + 1 })
          (record { bytes = p.bytes; len = command_bytes ed + 1 }))
      by true = simp length-set h
      by false = h

  -- The end of the input.
  closed : (p : Pending) (m : List ℕ) → Sized p → Alike (so_far p) m → AllAlike (ended ed p (closing p)) (unfinished m)
  unfolding ended
  closed p m h a = by p.len refl m a
    where
      by : (n : ℕ) → p.len ≡ n → (m : List ℕ) → Alike (so_far p) m → AllAlike (ended ed p (closing p)) (unfinished m)
      by zero e [] a = rw (ended_whole p e) none
      by zero e (x ∷ m) (inl g) = absurd (omega (arith, so_far_length p h, ap length g))
      by zero e (x ∷ m) (inr g) = absurd (omega (arith, so_far_length p h))
      by (suc n) e [] (inl g) = absurd (omega (arith, so_far_length p h, ap length g))
      by (suc n) e [] (inr g) = absurd (omega arith)
      by (suc n) e (x ∷ m) a = rw (ended_open p (λ z. omega arith)) (then a none)

  pub no_line_alike : Alike (so_far no_line) []
  unfolding so_far
  no_line_alike = inl refl

  -- All bytes of a command are among those kept.
  module _ (short : ed.width ≤ 2) where
    -- A line with one byte more, as it was kept.
    pub kept_longer : (p : Pending) (b : ℕ) → Sized p → Alike (so_far (longer ed p b)) (so_far p ++ (b ∷ []))
    unfolding longer so_far
    kept_longer p b h = by (ltb p.len (command_bytes ed)) refl
      where
        by : (t : Bool) → ltb p.len (command_bytes ed) ≡ t
            → Alike
            (so_far (choose t (record { bytes = set p.bytes p.len b; len = p.len + 1 })
            (record { bytes = p.bytes; len = command_bytes ed + 1 })))
            (so_far p ++ (b ∷ []))
        by true e =
            let lt : p.len < length p.bytes = omega (arith, ltb-true) in
            let le : suc p.len ≤ length (set p.bytes p.len b) = simp length-set (omega arith) in
            inl
            (rw (
              add-one p.len,
              take-append-le (suc p.len) (set p.bytes p.len b) (0 ∷ []) le,
              take-suc-set p.bytes p.len b lt,
              take-append-le p.len p.bytes (0 ∷ []) (omega arith),
            ))
        by false e =
            inr (
              omega (arith, so_far_length (record { bytes = p.bytes; len = command_bytes ed + 1 }) h),
              simp length-append (omega (arith, ltb-false, so_far_length p h)),
            )

    -- The lines that end in the bytes and the one that the input's end ends, after what was kept of a line m, are those of the rules.
    pub whole_lines : (p : Pending) (m bytes : List ℕ) → Sized p → Alike (so_far p) m
        → AllAlike (ended ed p bytes ++ ended ed (held ed p bytes) (closing (held ed p bytes))) (lines_after m bytes)
    unfolding ended held lines_after
    whole_lines p m [] h a = closed p m h a
    whole_lines p m (b ∷ bytes) h a =
        by (eqb b newline) (whole_lines no_line [] bytes refl no_line_alike)
        (whole_lines (longer ed p b) (m ++ (b ∷ [])) bytes (longer_sized p b h) (alike_trans (kept_longer p b h) (alike_longer b a)))
      where
        by : (t : Bool)
            → AllAlike (ended ed no_line bytes ++ ended ed (held ed no_line bytes) (closing (held ed no_line bytes))) (lines_after [] bytes)
            → AllAlike (ended ed (longer ed p b) bytes ++ ended ed (held ed (longer ed p b) bytes)
            (closing (held ed (longer ed p b) bytes))) (lines_after (m ++ (b ∷ [])) bytes)
            → AllAlike
            (choose t (so_far p ∷ ended ed no_line bytes) (ended ed (longer ed p b) bytes)
            ++ ended ed (held ed (choose t no_line (longer ed p b)) bytes) (closing (held ed (choose t no_line (longer ed p b)) bytes)))
            (choose t (m ∷ lines_after [] bytes) (lines_after (m ++ (b ∷ [])) bytes))
        by true f g = then a f
        by false f g = g
