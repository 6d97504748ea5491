-- Which keys are in the set after a command, and that no value is stored.
use mathlib.Core.List.Memᴰ
use mathlib.Core.List.{List, [], ◌∷◌}
use mathlib.Core.Logic.{◌⊎◌, inl, inr, ⊎_elim, ◌↔◌}
use mathlib.Core.Path.{◌≡◌, refl, sym, ◌∙◌, subst}
use Prim.Native.Nat.{ℕ}
use native.Mathlib.Omega.{arith}
use Rattle.rules.specs.Order.{Order, equal, toward, left, right, by_order}
use Rattle.rules.specs.Edition.{edition, Width}
use Rattle.rules.specs.Command.{Command, get, next, prev, remove, write, insert, min, max, take_first, take_last, clear, len, unknown, FULL}
use Rattle.rules.specs.Live.{Pair, Storing, replaces, is_full, adds, but_last, Before, Ascending, put, without, pair, storing, stored, stored_reply, after, reply}
use Rattle.rules.specs.Tree.{entries}
use Rattle.rules.specs.Perform.{State, perform}
use Rattle.rules.specs.Arena.{WellFormed}
use Rattle.rules.specs.Reading.{as_set, read_as}
use Rattle.rules.specs.Calls.{perform_as}
use Rattle.rules.proofs.Order.{edition_lawful}
use Rattle.rules.proofs.WellFormed.{sound}
use Rattle.rules.proofs.Run.{perform_as_live}
use Rattle.members.specs.Members.{Among, Member, Zeros}
use Rattle.members.proofs.Members.{differ, reply_code}

module _ {wd : ℕ} (width : Width wd) where
  -- The keys of a list with a pair put in: the pair's, and those of the list.
  module _ (p : Pair ℕ) {j : ℕ} where
    put_from_by : (x : Pair ℕ) (l m : List (Pair ℕ)) (o : Order) → (Among j m → (j ≡ p.key) ⊎ Among j l)
        → Among j (by_order o (p ∷ l) (p ∷ (x ∷ l)) (x ∷ m)) → (j ≡ p.key) ⊎ Among j (x ∷ l)
    put_from_by x l m equal f h = ⊎_elim inl (λ t. inr (Memᴰ.tail t)) (Memᴰ.cases_cons h)
    put_from_by x l m (toward left) f h = Memᴰ.cases_cons h
    put_from_by x l m (toward right) f h =
        ⊎_elim (λ e. inr (Memᴰ.head e)) (λ t. ⊎_elim inl (λ u. inr (Memᴰ.tail u)) (f t)) (Memᴰ.cases_cons h)

    put_from : (l : List (Pair ℕ)) → Among j (put (edition wd) p l) → (j ≡ p.key) ⊎ Among j l
    unfolding put
    put_from [] h = Memᴰ.cases_cons h
    put_from (x ∷ l) h = put_from_by x l (put (edition wd) p l) ((edition wd).order p.key x.key) (put_from l) h

    put_to_by : (x : Pair ℕ) (l m : List (Pair ℕ)) (o : Order) → (edition wd).order p.key x.key ≡ o → ((j ≡ p.key) ⊎ Among j l → Among j m)
        → (j ≡ p.key) ⊎ Among j (x ∷ l) → Among j (by_order o (p ∷ l) (p ∷ (x ∷ l)) (x ∷ m))
    put_to_by x l m equal e f (inl q) = Memᴰ.head q
    put_to_by x l m equal e f (inr h) =
        ⊎_elim (λ q. Memᴰ.head (q ∙ sym ((edition_lawful width).same p.key x.key e))) (λ t. Memᴰ.tail t) (Memᴰ.cases_cons h)
    put_to_by x l m (toward left) e f (inl q) = Memᴰ.head q
    put_to_by x l m (toward left) e f (inr h) = Memᴰ.tail h
    put_to_by x l m (toward right) e f (inl q) = Memᴰ.tail (f (inl q))
    put_to_by x l m (toward right) e f (inr h) =
        ⊎_elim (λ q. Memᴰ.head q) (λ t. Memᴰ.tail (f (inr t))) (Memᴰ.cases_cons h)

    put_to : (l : List (Pair ℕ)) → (j ≡ p.key) ⊎ Among j l → Among j (put (edition wd) p l)
    unfolding put
    put_to [] (inl e) = Memᴰ.head e
    put_to [] (inr h) = absurd (Memᴰ.not-nil h)
    put_to (x ∷ l) h = put_to_by x l (put (edition wd) p l) ((edition wd).order p.key x.key) refl (put_to l) h

  -- A key that is before a list is not in it.
  not_behind : (k : ℕ) (l : List (Pair ℕ)) → Before (edition wd) k l → Among k l → ⊥
  not_behind k [] b h = Memᴰ.not-nil h
  not_behind k (x ∷ l) b h =
      ⊎_elim (differ width k x.key b.0) (not_behind k l b.1) (Memᴰ.cases_cons h)

  -- The keys of an ascending list without a key: the others.
  module _ (k : ℕ) {j : ℕ} where
    other_key : (x : Pair ℕ) (l m : List (Pair ℕ)) → (k ≡ x.key → ⊥) → (Among j m ↔ (Among j l × (j ≡ k → ⊥)))
        → Among j (x ∷ m) ↔ (Among j (x ∷ l) × (j ≡ k → ⊥))
    other_key x l m d f = (
      λ h. ⊎_elim (λ e. (Memᴰ.head e, λ q. d (sym q ∙ e))) (λ t. (Memᴰ.tail (f.0 t).0, (f.0 t).1)) (Memᴰ.cases_cons h),
      λ h. ⊎_elim (λ e. Memᴰ.head e) (λ t. Memᴰ.tail (f.1 (t, h.1))) (Memᴰ.cases_cons h.0),
    )

    without_by : (x : Pair ℕ) (l m : List (Pair ℕ)) (o : Order) → (edition wd).order k x.key ≡ o → Before (edition wd) x.key l
        → (Among j m ↔ (Among j l × (j ≡ k → ⊥))) → Among j (by_order o l (x ∷ m) (x ∷ m)) ↔ (Among j (x ∷ l) × (j ≡ k → ⊥))
    without_by x l m equal e b f =
        let s : k ≡ x.key = (edition_lawful width).same k x.key e in (
          λ h. (Memᴰ.tail h, λ q. not_behind x.key l b (subst (λ (i : ℕ). Among i l) (q ∙ s) h)),
          λ h. ⊎_elim (λ q. absurd (h.1 (q ∙ sym s))) (λ t. t) (Memᴰ.cases_cons h.0),
        )
    without_by x l m (toward left) e b f = other_key x l m (differ width k x.key e) f
    without_by x l m (toward right) e b f = other_key x l m (differ width k x.key e) f

    without_keys : (l : List (Pair ℕ)) → Ascending (edition wd) l → Among j (without (edition wd) k l) ↔ (Among j l × (j ≡ k → ⊥))
    unfolding without
    without_keys [] a = (λ h. absurd (Memᴰ.not-nil h), λ h. h.0)
    without_keys (x ∷ l) a = without_by x l (without (edition wd) k l) ((edition wd).order k x.key) refl a.0 (without_keys l a.1)

  -- An insert that is not FULL adds its key, and one that is changes nothing.
  stored_keys : (s : Storing ℕ) (k : ℕ) (l : List (Pair ℕ)) {j : ℕ} → ((stored_reply (edition wd) s k).code ≡ FULL → ⊥)
      → Among j (stored (edition wd) s (pair (edition wd) k 0) l) ↔ ((j ≡ k) ⊎ Among j l)
  stored_keys (replaces q) k l d = (put_from (pair (edition wd) k 0) l, put_to (pair (edition wd) k 0) l)
  stored_keys is_full k l d = absurd (d refl)
  stored_keys adds k l d = (put_from (pair (edition wd) k 0) l, put_to (pair (edition wd) k 0) l)

  stored_full : (s : Storing ℕ) (k : ℕ) (l : List (Pair ℕ)) → (stored_reply (edition wd) s k).code ≡ FULL → stored (edition wd) s (pair (edition wd) k 0) l ≡ l
  stored_full (replaces q) k l e = absurd (let z : ◌≡◌ {A = ℕ} 0 1 = cc in omega arith)
  stored_full is_full k l e = refl
  stored_full adds k l e = absurd (let z : ◌≡◌ {A = ℕ} 0 1 = cc in omega arith)

  -- The entries after a command.
  afterwards : {w : List ℕ} {st : State ℕ} → WellFormed (edition wd) w st → (c : Command ℕ)
      → entries (perform_as (edition wd) as_set c st).state.tree ≡ after (edition wd) st.slots (read_as as_set c) (entries st.tree)
  afterwards {st = st} f c = (perform_as_live (edition wd) as_set (edition_lawful width) c st (sound (edition wd) f)).0

  -- The keys in the set after an insert, a remove and a get.
  module _ {w : List ℕ} {st : State ℕ} (f : WellFormed (edition wd) w st) (k : ℕ) where
    pub insert_adds : (v j : ℕ) → ((perform_as (edition wd) as_set (insert k v) st).answer.code ≡ FULL → ⊥)
        → Member j (perform_as (edition wd) as_set (insert k v) st).state ↔ ((j ≡ k) ⊎ Member j st)
    unfolding after reply
    insert_adds v j d = rw (afterwards f (insert k v)) (stored_keys (storing (edition wd) st.slots k (entries st.tree)) k (entries st.tree) (λ q. d (reply_code width f (insert k v) ∙ q)))

    pub full_keeps : (v : ℕ) → (perform_as (edition wd) as_set (insert k v) st).answer.code ≡ FULL
        → entries (perform_as (edition wd) as_set (insert k v) st).state.tree ≡ entries st.tree
    unfolding after reply
    full_keeps v e =
        afterwards f (insert k v)
        ∙ stored_full (storing (edition wd) st.slots k (entries st.tree)) k (entries st.tree) (sym (reply_code width f (insert k v)) ∙ e)

    pub remove_drops : (j : ℕ) → Member j (perform_as (edition wd) as_set (remove k) st).state ↔ (Member j st × (j ≡ k → ⊥))
    unfolding after
    remove_drops j = rw (afterwards f (remove k)) (without_keys k (entries st.tree) (sound (edition wd) f).ascending)

    pub get_keeps : entries (perform_as (edition wd) as_set (get k) st).state.tree ≡ entries st.tree
    unfolding after
    get_keeps = afterwards f (get k)

  -- Command 2 is unknown, and changes nothing.
  pub write_keeps : (k v : ℕ) (st : State ℕ) → (perform_as (edition wd) as_set (write k v) st).state ≡ st
  unfolding perform_as perform
  write_keeps k v st = refl

  -- Where every value is 0, every value is 0 after any of the set's commands.
  put_zeros_by : (k : ℕ) (x : Pair ℕ) (l m : List (Pair ℕ)) (o : Order) → Zeros (x ∷ l) → Zeros m
      → Zeros (by_order o (pair (edition wd) k 0 ∷ l) (pair (edition wd) k 0 ∷ (x ∷ l)) (x ∷ m))
  put_zeros_by k x l m equal z y = (refl, z.1)
  put_zeros_by k x l m (toward left) z y = (refl, z)
  put_zeros_by k x l m (toward right) z y = (z.0, y)

  put_zeros : (k : ℕ) (l : List (Pair ℕ)) → Zeros l → Zeros (put (edition wd) (pair (edition wd) k 0) l)
  unfolding put
  put_zeros k [] z = (refl, tt)
  put_zeros k (x ∷ l) z = put_zeros_by k x l (put (edition wd) (pair (edition wd) k 0) l) ((edition wd).order k x.key) z (put_zeros k l z.1)

  stored_zeros : (s : Storing ℕ) (k : ℕ) (l : List (Pair ℕ)) → Zeros l → Zeros (stored (edition wd) s (pair (edition wd) k 0) l)
  stored_zeros (replaces q) k l z = put_zeros k l z
  stored_zeros is_full k l z = z
  stored_zeros adds k l z = put_zeros k l z

  without_zeros_by : (x : Pair ℕ) (l m : List (Pair ℕ)) (o : Order) → Zeros (x ∷ l) → Zeros m → Zeros (by_order o l (x ∷ m) (x ∷ m))
  without_zeros_by x l m equal z y = z.1
  without_zeros_by x l m (toward left) z y = (z.0, y)
  without_zeros_by x l m (toward right) z y = (z.0, y)

  without_zeros : (k : ℕ) (l : List (Pair ℕ)) → Zeros l → Zeros (without (edition wd) k l)
  unfolding without
  without_zeros k [] z = tt
  without_zeros k (x ∷ l) z = without_zeros_by x l (without (edition wd) k l) ((edition wd).order k x.key) z (without_zeros k l z.1)

  but_last_zeros : (l : List (Pair ℕ)) → Zeros l → Zeros (but_last l)
  unfolding but_last
  but_last_zeros [] z = tt
  but_last_zeros (x ∷ []) z = tt
  but_last_zeros (x ∷ (y ∷ l)) z = (z.0, but_last_zeros (y ∷ l) z.1)

  after_zeros : (n : ℕ) (c : Command ℕ) (l : List (Pair ℕ)) → Zeros l → Zeros (after (edition wd) n (read_as as_set c) l)
  unfolding after
  after_zeros n (get k) l z = z
  after_zeros n (next k) l z = z
  after_zeros n (prev k) l z = z
  after_zeros n (remove k) l z = without_zeros k l z
  after_zeros n (write k v) l z = z
  after_zeros n (insert k v) l z = stored_zeros (storing (edition wd) n k l) k l z
  after_zeros n min l z = z
  after_zeros n max l z = z
  after_zeros n take_first [] z = tt
  after_zeros n take_first (x ∷ l) z = z.1
  after_zeros n take_last l z = but_last_zeros l z
  after_zeros n clear l z = tt
  after_zeros n len l z = z
  after_zeros n unknown l z = z

  pub stores_no_value : {w : List ℕ} {st : State ℕ} → WellFormed (edition wd) w st → (c : Command ℕ) → Zeros (entries st.tree)
      → Zeros (entries (perform_as (edition wd) as_set c st).state.tree)
  stores_no_value {st = st} f c z =
      rw (afterwards f c) (after_zeros st.slots c (entries st.tree) z)
