-- What bytes that were taken leave, and that bytes taken in two goes leave what they leave at once.
-- Assumes nothing.
use mathlib.Core.List.{List, ◌++◌}
use mathlib.Core.Path.{◌≡◌, refl, sym, ◌∙◌, ap}
use Prim.Native.Nat.{ℕ}
use Rattle.rules.specs.Edition.{Edition}
use Rattle.rules.specs.Perform.{State}
use Rattle.rules.specs.Arena.{WellFormed, over}
use Rattle.rules.specs.Lines.{respond}
use Rattle.rules.proofs.Order.{Lawful}
use Rattle.rules.proofs.Words.{over_over}
use Rattle.flow.specs.declared.Pending.{Pending}
use Rattle.flow.specs.Stream.{held, ended, state_after}
use Rattle.flow.proofs.Pieces.{held_append, ended_append, state_append, respond_append, state_slots}

module _ {K : Type 0} (ed : Edition K) where
  -- From a line p, the words w and their state st.
  pub record Took (p : Pending) (w : List ℕ) (st : State K) (taken written : List ℕ) (p' : Pending) (w' : List ℕ) : Type 0 where
    pub line : p' ≡ held ed p taken
    pub bytes : written ≡ respond ed (ended ed p taken) st
    pub words : w' ≡ over ed (state_after ed (ended ed p taken) st) w
    pub formed : WellFormed ed w' (state_after ed (ended ed p taken) st)

  module _ (laws : Lawful ed) where
    -- The words that are left are those of the state that is left.
    pub took_own : {p p' : Pending} {w w' taken written : List ℕ} {st : State K} → Took p w st taken written p' w'
        → w' ≡ over ed (state_after ed (ended ed p taken) st) w'
    took_own {p} {w = w} {taken = taken} {st = st} s =
        let to = state_after ed (ended ed p taken) st in
        s.words ∙ sym (over_over ed laws to to w refl) ∙ ap (over ed to) (sym s.words)

    pub both : {p q r : Pending} {w v u xs ys written more : List ℕ} {st : State K} → Took p w st xs written q v
        → Took q v (state_after ed (ended ed p xs) st) ys more r u → Took p w st (xs ++ ys) (written ++ more) r u
    both {p} {r = r} {w = w} {v = v} {u = u} {xs = xs} {ys = ys} {more = more} {st = st} s t =
        let mid = state_after ed (ended ed p xs) st in
        let t' : Took (held ed p xs) v mid ys more r u = rw s.line at t in
        let now = ended ed (held ed p xs) ys in
        record {
          line = t'.line ∙ sym (held_append ed p xs ys);
          bytes = rw (s.bytes, t'.bytes, ended_append ed p xs ys) (sym (respond_append ed (ended ed p xs) now st));
          words = t'.words
              ∙ ap (over ed (state_after ed now mid)) s.words
              ∙ over_over ed laws mid (state_after ed now mid) w (sym (state_slots ed now mid))
              ∙ rw (ended_append ed p xs ys, state_append ed (ended ed p xs) now st);
          formed = rw (ended_append ed p xs ys, state_append ed (ended ed p xs) now st) t'.formed;
        }
