-- What the replies of the live entries are: their codes, and when a new key is FULL.
use mathlib.Core.Bool.{Bool, true, false}
use mathlib.Core.List.{List}
use mathlib.Core.Logic.{◌↔◌}
use mathlib.Core.Option.{Option, none as nil, some}
use mathlib.Core.Path.{◌≡◌, refl, sym, ◌∙◌, ap}
use Prim.Native.Nat.{ℕ, ◌≤◌}
use native.Mathlib.Omega.{arith}
use lib.Dec.{eqb}
use lib.ListN.{length}
use borrow.Author.Tests.{eqb-true, eqb-false, eq-eqb, ne_eqb}
use Rattle.rules.specs.Edition.{Edition}
use Rattle.rules.specs.Command.{Command, get, next, prev, remove, write, insert, min, max, take_first, take_last, clear, len, unknown, Code, FOUND, REPLACED, REMOVED, NEW, FULL, UNKNOWN, code_number, Reply}
use Rattle.rules.specs.Live.{Pair, Storing, replaces, is_full, adds, find, above, below, first, last, storing, replies, says, with_entry, stored_reply, reply}
use Rattle.rules.specs.Reading.{Reading, as_map, as_set, read_as, reply_as}

module _ {K : Type 0} (ed : Edition K) where
  -- An answer's code is at most UNKNOWN.
  with_entry_code : (c : Code) (o : Option (Pair K)) → code_number c ≤ 7 → code_number (with_entry ed c o).code ≤ 7
  with_entry_code c nil h = omega arith
  with_entry_code c (some p) h = h

  stored_code : (s : Storing K) (k : K) → code_number (stored_reply ed s k).code ≤ 7
  stored_code (replaces p) k = omega arith
  stored_code is_full k = omega arith
  stored_code adds k = omega arith

  pub reply_code : (n : ℕ) (c : Command K) (l : List (Pair K)) → code_number (reply ed n c l).code ≤ code_number UNKNOWN
  unfolding reply
  reply_code n (get k) l = with_entry_code FOUND (find ed k l) (omega arith)
  reply_code n (write k v) l = with_entry_code REPLACED (find ed k l) (omega arith)
  reply_code n (next k) l = with_entry_code FOUND (above ed k l) (omega arith)
  reply_code n (prev k) l = with_entry_code FOUND (below ed k l) (omega arith)
  reply_code n (insert k v) l = stored_code (storing ed n k l) k
  reply_code n (remove k) l = with_entry_code REMOVED (find ed k l) (omega arith)
  reply_code n min l = with_entry_code FOUND (first l) (omega arith)
  reply_code n max l = with_entry_code FOUND (last l) (omega arith)
  reply_code n take_first l = with_entry_code REMOVED (first l) (omega arith)
  reply_code n take_last l = with_entry_code REMOVED (last l) (omega arith)
  reply_code n clear l = omega arith
  reply_code n len l = omega arith
  reply_code n unknown l = omega arith

  -- An insert of a key that is not there, in either reading.
  module _ (r : Reading) (n : ℕ) (k : K) (v : ℕ) (l : List (Pair K)) (absent : find ed k l ≡ nil) where
    pub full_reply : length l ≡ n → reply_as r (reply ed n (read_as r (insert k v)) l) ≡ says ed FULL
    unfolding reply
    full_reply e = by r
      where
        by : (q : Reading) → reply_as q (reply ed n (read_as q (insert k v)) l) ≡ says ed FULL
        by as_map = rw (absent, eq-eqb (length l) n e)
        by as_set = rw (absent, eq-eqb (length l) n e)

    pub new_reply : (length l ≡ n → ⊥) → reply_as r (reply ed n (read_as r (insert k v)) l) ≡ replies ed NEW k 0
    unfolding reply
    new_reply e = by r
      where
        by : (q : Reading) → reply_as q (reply ed n (read_as q (insert k v)) l) ≡ replies ed NEW k 0
        by as_map = rw (absent, ne_eqb (length l) n e)
        by as_set = rw (absent, ne_eqb (length l) n e)

    -- Its code is FULL exactly when there are n entries, and otherwise NEW.
    pub full_exactly : (c : Code) → (reply_as r (reply ed n (read_as r (insert k v)) l)).code ≡ c
        → ((code_number c ≡ code_number FULL) ↔ (length l ≡ n)) × ((code_number c ≡ code_number NEW) ↔ (length l ≡ n → ⊥))
    full_exactly c e = by (eqb (length l) n) refl
      where
        by : (b : Bool) → eqb (length l) n ≡ b
            → ((code_number c ≡ code_number FULL) ↔ (length l ≡ n)) × ((code_number c ≡ code_number NEW) ↔ (length l ≡ n → ⊥))
        by true q =
            let same : length l ≡ n = eqb-true (length l) n q in
            let f : FULL ≡ c = sym (ap (λ (p : Reply K). p.code) (full_reply same)) ∙ e in
            let g : code_number FULL ≡ code_number c = ap code_number f in
            ((λ x. same, λ x. sym g), (λ x. absurd (omega arith), λ x. absurd (x same)))
        by false q =
            let other : length l ≡ n → ⊥ = eqb-false (length l) n q in
            let f : NEW ≡ c = sym (ap (λ (p : Reply K). p.code) (new_reply other)) ∙ e in
            let g : code_number NEW ≡ code_number c = ap code_number f in
            ((λ x. absurd (omega arith), λ x. absurd (other x)), (λ x. other, λ x. sym g))
