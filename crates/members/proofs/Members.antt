-- Membership: what the set's answers say of the keys that the arena holds, from the calls' contracts and the laws of the live entries.
use mathlib.Core.Bool.{Bool, true, false}
use mathlib.Core.List.Memᴰ
use mathlib.Core.List.{List, [], ◌∷◌, Memᴰ}
use mathlib.Core.Logic.{⊎_elim}
use mathlib.Core.Option.{Option, none as nil, some}
use mathlib.Core.Path.{◌≡◌, refl, sym, ap, ◌∙◌}
use Prim.Native.Nat.{ℕ}
use native.Mathlib.Omega.{arith}
use lib.Dec.{eqb}
use lib.ListN.{length}
use borrow.Author.Tests.{ne_eqb, eqb-true, eqb-false}
use Rattle.std.specs.Prelude.{Result, Ok, Err}
use Rattle.rules.specs.Order.{Side, left, right, Order, equal, toward, by_order}
use Rattle.rules.specs.Edition.{edition, Width}
use Rattle.rules.specs.Command.{Command, get, insert, remove, Code, FOUND, ABSENT, NEW, REPLACED, REMOVED, FULL, COUNT, DAMAGED, Reply, Answer, code_number, bare, answer_words, command}
use Rattle.rules.specs.Live.{Pair, find, with_entry, storing_by, stored_reply, reply}
use Rattle.rules.specs.Tree.{entries}
use Rattle.rules.specs.Perform.{State}
use Rattle.rules.specs.Arena.{WellFormed}
use Rattle.rules.specs.Reading.{as_set, read_as}
use Rattle.rules.specs.Calls.{Replied, Does, well_formed, damaged, One, perform_as, perform_all}
use Rattle.rules.proofs.Order.{edition_lawful, self}
use Rattle.rules.proofs.WellFormed.{sound, the_state, one_outcome}
use Rattle.rules.proofs.Run.{perform_as_live}
use Rattle.heads.specs.Worded.{code_of}
use Rattle.heads.specs.declared.answer.Answer as machine
use Rattle.calls.specs.Told.{told}
use Rattle.calls.proofs.Called.{value_said}
use Rattle.calls.proofs.Codes.{same_code, code_said}
use Rattle.members.specs.Asked.{was_of, Asks, Told}
use Rattle.members.specs.Members.{Among, SaysIn, member, no_member, SaysStored, was_there, no_room, is_new}
use Rattle.members.specs.declared.Was.{Was}
use Rattle.members.specs.declared.Was.TheVariants as is
use Rattle.members.specs.declared.Refused.{Refused}
use Rattle.members.specs.declared.Refused.TheVariants as refused

module _ {wd : ℕ} (width : Width wd) where
  -- What looking for a key finds.
  data Found (k : ℕ) (l : List (Pair ℕ)) : Option (Pair ℕ) → Type 0 where
    among : (p : Pair ℕ) → Among k l → Found k l (some p)
    not_among : (Among k l → ⊥) → Found k l nil

  -- An entry more in front, with another key.
  further : {k : ℕ} {l : List (Pair ℕ)} {m : Option (Pair ℕ)} (x : Pair ℕ) → (k ≡ x.key → ⊥) → Found k l m → Found k (x ∷ l) m
  further x d (among p h) = among p (Memᴰ.tail h)
  further x d (not_among h) = not_among (λ q. ⊎_elim d h (Memᴰ.cases_cons q))

  -- Keys of which one lies on a side of the other are not equal.
  pub differ : (k a : ℕ) {s : Side} → (edition wd).order k a ≡ toward s → k ≡ a → ⊥
  differ k a {s} e q =
      let p : toward s ≡ equal = sym e ∙ ap (λ (x : ℕ). (edition wd).order x a) q ∙ self (edition wd) (edition_lawful width) a in
      let z : ◌≡◌ {A = ℕ} 0 1 = cc in omega arith

  beside : (k : ℕ) (x : Pair ℕ) (l : List (Pair ℕ)) {m : Option (Pair ℕ)} (o : Order) → (edition wd).order k x.key ≡ o → Found k l m
      → Found k (x ∷ l) (by_order o (some x) m m)
  beside k x l equal e h = among x (Memᴰ.head ((edition_lawful width).same k x.key e))
  beside k x l (toward left) e h = further x (differ k x.key e) h
  beside k x l (toward right) e h = further x (differ k x.key e) h

  finds : (k : ℕ) (l : List (Pair ℕ)) → Found k l (find (edition wd) k l)
  unfolding find
  finds k [] = not_among Memᴰ.not-nil
  finds k (x ∷ l) = beside k x l ((edition wd).order k x.key) refl (finds k l)

  -- Says of x what it says of another thing that determines x.
  through : {A B : Type 0} {k : ℕ} {st : State ℕ} {yes no x : A} (g : A → B) {y : B} → y ≡ g x → SaysIn k st yes no x → SaysIn k st (g yes) (g no) y
  through g e (member h q) = member h (e ∙ ap g q)
  through g e (no_member h q) = no_member h (e ∙ ap g q)

  stored_through : {A B : Type 0} {k : ℕ} {st : State ℕ} {old full new x : A} (g : A → B) {y : B} → y ≡ g x
      → SaysStored k st old full new x → SaysStored k st (g old) (g full) (g new) y
  stored_through g e (was_there h q) = was_there h (e ∙ ap g q)
  stored_through g e (no_room h l q) = no_room h l (e ∙ ap g q)
  stored_through g e (is_new h l q) = is_new h l (e ∙ ap g q)

  -- The code of a reply with the key's entry, and of an insert.
  entry_code : {k : ℕ} {st : State ℕ} (c : Code) {m : Option (Pair ℕ)} → Found k (entries st.tree) m → SaysIn k st c ABSENT (with_entry (edition wd) c m).code
  entry_code c (among p h) = member h refl
  entry_code c (not_among h) = no_member h refl

  stored_code : {k : ℕ} {st : State ℕ} {m : Option (Pair ℕ)} (b : Bool) → eqb (length (entries st.tree)) st.slots ≡ b
      → Found k (entries st.tree) m → SaysStored k st REPLACED FULL NEW (stored_reply (edition wd) (storing_by (edition wd) m b) k).code
  stored_code b e (among p h) = was_there h refl
  stored_code true e (not_among h) = no_room h (eqb-true _ _ e) refl
  stored_code false e (not_among h) = is_new h (eqb-false _ _ e) refl

  -- A command's code is that of the reply from the live entries.
  pub reply_code : {w : List ℕ} {st : State ℕ} → WellFormed (edition wd) w st → (c : Command ℕ)
      → (perform_as (edition wd) as_set c st).answer.code ≡ (reply (edition wd) st.slots (read_as as_set c) (entries st.tree)).code
  reply_code {st = st} f c = ap (λ (p : Reply ℕ). p.code) (perform_as_live (edition wd) as_set (edition_lawful width) c st (sound (edition wd) f)).1

  -- On a well-formed arena the codes of get, remove and insert tell whether the key is in the set.
  module _ {w : List ℕ} {st : State ℕ} (f : WellFormed (edition wd) w st) (k : ℕ) where
    pub get_says : SaysIn k st FOUND ABSENT (perform_as (edition wd) as_set (get k) st).answer.code
    unfolding reply
    get_says = through (λ c. c) (reply_code f (get k)) (entry_code FOUND (finds k (entries st.tree)))

    pub remove_says : SaysIn k st REMOVED ABSENT (perform_as (edition wd) as_set (remove k) st).answer.code
    unfolding reply
    remove_says = through (λ c. c) (reply_code f (remove k)) (entry_code REMOVED (finds k (entries st.tree)))

    pub insert_says : (v : ℕ) → SaysStored k st REPLACED FULL NEW (perform_as (edition wd) as_set (insert k v) st).answer.code
    unfolding reply
    insert_says v = stored_through (λ c. c) (reply_code f (insert k v)) (stored_code _ refl (finds k (entries st.tree)))

  -- What a call about one key tells on a well-formed arena.
  tells : {w w' : List ℕ} {st : State ℕ} {x : Result Was Refused} → WellFormed (edition wd) w st → (c : Command ℕ)
      → Asks wd c w (record { was = x; arena = w' }) → x ≡ was_of (perform_as (edition wd) as_set c st).answer.code
  tells f c (well_formed st' g q) =
      ap (λ (t : Told). t.was) q
      ∙ ap (λ (s : State ℕ). was_of (perform_as (edition wd) as_set c s).answer.code) (the_state (edition wd) g f)
  tells {st = st} f c (damaged d q) = absurd (d st f)

  -- What `contains`, `remove` and `insert` promise says whether the key is in the set.
  module _ {w w' : List ℕ} {st : State ℕ} (f : WellFormed (edition wd) w st) (k : ℕ) {x : Result Was Refused} where
    pub contains_tells : Asks wd (get k) w (record { was = x; arena = w' }) → SaysIn k st (Ok is.There) (Ok is.Absent) x
    contains_tells h = through was_of (tells f (get k) h) (get_says f k)

    pub insert_tells : Asks wd (insert k 0) w (record { was = x; arena = w' }) → SaysStored k st (Ok is.There) (Err refused.Full) (Ok is.Absent) x
    insert_tells h = stored_through was_of (tells f (insert k 0) h) (insert_says f k 0)

    pub remove_tells : Asks wd (remove k) w (record { was = x; arena = w' }) → SaysIn k st (Ok is.There) (Ok is.Absent) x
    remove_tells h = through was_of (tells f (remove k) h) (remove_says f k)

  -- No command's answer has a value but COUNT's.
  pub no_value : (c : Command ℕ) (st : State ℕ) → (code_number (perform_as (edition wd) as_set c st).answer.code ≡ code_number COUNT → ⊥)
      → (perform_as (edition wd) as_set c st).answer.value ≡ 0
  unfolding perform_as
  no_value c st d = rw (ne_eqb _ _ d)

  -- The same of what `one` promises of its answer r, whose key is any that has a number.
  module _ {K : Type 0} (number : K → ℕ) where
    -- What a call for one command answers on a well-formed arena.
    answered : {w w' : List ℕ} {st : State ℕ} (r : machine.Answer K) → WellFormed (edition wd) w st → (c : Command ℕ)
        → Does (edition wd) as_set c w (record { answer = told number wd r; arena = w' })
        → told number wd r ≡ answer_words (edition wd) (perform_as (edition wd) as_set c st).answer
    answered r f c (well_formed st' g q) =
        ap (λ (x : Replied). x.answer) q
        ∙ ap (λ (s : State ℕ). answer_words (edition wd) (perform_as (edition wd) as_set c s).answer) (the_state (edition wd) g f)
    answered {st = st} r f c (damaged d q) = absurd (d st f)

    module _ {w w' : List ℕ} {st : State ℕ} (f : WellFormed (edition wd) w st) (k : ℕ) (r : machine.Answer K) (v : ℕ) where
      pub one_get : One (edition wd) as_set 1 k v w (record { answer = told number wd r; arena = w' }) → SaysIn k st FOUND ABSENT (code_of r.code)
      one_get h =
          through (λ c. c) (code_said number wd r (perform_as (edition wd) as_set (get k) st).answer (answered r f (get k) h)) (get_says f k)

      pub one_insert : One (edition wd) as_set 5 k v w (record { answer = told number wd r; arena = w' })
          → SaysStored k st REPLACED FULL NEW (code_of r.code)
      one_insert h =
          stored_through (λ c. c) (code_said number wd r (perform_as (edition wd) as_set (insert k v) st).answer (answered r f (insert k v) h))
          (insert_says f k v)

      pub one_remove : One (edition wd) as_set 6 k v w (record { answer = told number wd r; arena = w' })
          → SaysIn k st REMOVED ABSENT (code_of r.code)
      one_remove h =
          through (λ c. c) (code_said number wd r (perform_as (edition wd) as_set (remove k) st).answer (answered r f (remove k) h)) (remove_says f k)

    pub one_no_value : {w w' : List ℕ} (r : machine.Answer K) (n k v : ℕ)
        → One (edition wd) as_set n k v w (record { answer = told number wd r; arena = w' }) → (code_of r.code ≡ COUNT → ⊥) → r.value ≡ 0
    one_no_value r n k v (well_formed st f q) d =
        let m = (perform_as (edition wd) as_set (command n k v) st).answer in
        let e = answered r f (command n k v) (well_formed st f q) in
        value_said number r m width e ∙ no_value (command n k v) st (λ z. d (code_said number wd r m e ∙ same_code m.code COUNT z))
    one_no_value r n k v (damaged f q) d = value_said number r (bare (edition wd) DAMAGED 0) width (ap (λ (x : Replied). x.answer) q)

  -- And of the answers of a run.
  pub run_no_value : (cs : List (Command ℕ)) (st : State ℕ) (a : Answer ℕ) → Memᴰ a (perform_all (edition wd) as_set cs st).answers
      → (code_number a.code ≡ code_number COUNT → ⊥) → a.value ≡ 0
  unfolding perform_all
  run_no_value [] st a h d = absurd (Memᴰ.not-nil h)
  run_no_value (c ∷ cs) st a h d =
      ⊎_elim
      (λ e. ap (λ (x : Answer ℕ). x.value) e ∙ no_value c st (λ q. d (ap (λ (x : Answer ℕ). code_number x.code) e ∙ q)))
      (λ m. run_no_value cs (perform_as (edition wd) as_set c st).state a m d)
      (Memᴰ.cases_cons h)

  -- No second outcome fits a call by name.
  pub one_outcome_asked : (c : Command ℕ) (w : List ℕ) (given given' : Told) → Asks wd c w given → Asks wd c w given' → given ≡ given'
  one_outcome_asked c w given given' g g' = one_outcome (edition wd) g g'
