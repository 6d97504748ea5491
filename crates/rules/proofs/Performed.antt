-- Demand 3 for each command: of a state that fits, the entries afterwards and the answer, besides its comparisons, are those that the list
-- of live entries gives.
use mathlib.Core.Bool.{Bool, true, false}
use mathlib.Core.List.{List, [], ◌∷◌, ◌++◌, append_assoc}
use mathlib.Core.Option.{Option, none as nil, some}
use mathlib.Core.Path.{◌≡◌, refl, sym, ◌∙◌}
use Prim.Native.Nat.{ℕ, suc}
use native.Mathlib.Omega.{arith}
use Rattle.rules.specs.Order.{Side, left, right, other, Order, equal, toward, is_toward, by_order, choose}
use Rattle.rules.specs.Edition.{Edition}
use Rattle.rules.specs.Command.{Command, get, next, prev, remove, write, insert, min, max, take_first, take_last, clear, len, unknown, FOUND, REMOVED, Answer, said}
use Rattle.rules.specs.Live.{Pair, or_else, first, last, but_first, but_last, Ascending, find, above, below, put, without, pair, with_entry, after, reply}
use Rattle.rules.specs.Tree.{Entry, Tree, none, node, fork, pair_of, entries}
use Rattle.rules.specs.Splay.{splay}
use Rattle.rules.specs.Fit.{Fit}
use Rattle.rules.specs.Perform.{State, Outcome, new, Met, Room, outermost, if_present, found, replaced, removed, inserted, entry_or, seek, neighbour, outer, raise, taken, perform}
use Rattle.rules.proofs.Order.{Lawful}
use Rattle.rules.proofs.Splay.{splay_keeps}
use Rattle.rules.proofs.Ascending.{first_at, last_at, but_last_end, Lies, find_at, put_at, without_at, above_at, below_at, above_none, below_none, lies_on, apart}
use Rattle.rules.proofs.Brought.{entries_length, Roomed, no_slot, a_slot, rooms, Root, Brought, no_root, a_root, brings, hung}

module _ {K : Type 0} where
  -- The pair of an entry where there is one.
  abbrev known : Option (Entry K) → Option (Pair K)
  known nil = nil
  known (some e) = some (pair_of e)

  -- The outermost pair on the side d, and the list without it.
  abbrev outside : Side → List (Pair K) → Option (Pair K)
  outside left l = first l
  outside right l = last l

  abbrev rest : Side → List (Pair K) → List (Pair K)
  rest left l = but_first l
  rest right l = but_last l

  -- The first of two where the second is none, and of three where the second is there.
  alone : (a : Option (Pair K)) → or_else a nil ≡ a
  alone nil = refl
  alone (some x) = refl

  enough : (a : Option (Pair K)) (x : Pair K) (b : Option (Pair K)) → or_else a (some x) ≡ or_else (or_else a (some x)) b
  enough nil x b = refl
  enough (some y) x b = refl

  -- 7, 8: the outermost entry of a tree is that of its list.
  ends : (d : Side) (t : Tree K) (best : Option (Entry K)) → known (outermost d t best) ≡ or_else (outside d (entries t)) (known best)
  unfolding outermost last entries
  ends left none best = refl
  ends right none best = refl
  ends left (node e l r) best = ends left l (some e) ∙ rw first_at (enough (first (entries l)) (pair_of e) (known best))
  ends right (node e l r) best = ends right r (some e) ∙ rw last_at (enough (last (entries r)) (pair_of e) (known best))

module _ {K : Type 0} (ed : Edition K) where
  -- An outcome of a command on a state is what the list of live entries gives.
  abbrev pub Lives : Command K → State K → Outcome K → Type 0
  Lives c st o =
      (entries o.state.tree ≡ after ed st.slots c (entries st.tree))
      × (said o.answer ≡ reply ed st.slots c (entries st.tree))

  -- The pair nearest to the key that it lies on the side d of.
  abbrev nearest : Side → K → List (Pair K) → Option (Pair K)
  nearest left k l = above ed k l
  nearest right k l = below ed k l

  module _ (laws : Lawful ed) where
    -- The key's pair, the list with a pair put in and the list without the key, by the order of the key and the root.
    module _ (k : K) {t : Tree K} {o : Order} {e : Entry K} {l r : Tree K} (p : ed.order k e.key ≡ o) (h : Root ed k t e l r) where
      find_root : find ed k (entries t) ≡ by_order o (some (pair_of e)) nil nil
      find_root = rw (h.same_entries, find_at ed k (entries l) (pair_of e) (entries r) h.lefts h.rights, p)

      put_root : (v : ℕ)
          → put ed (pair ed k v) (entries t)
          ≡ entries l
          ++ by_order o (pair ed k v ∷ entries r) (pair ed k v ∷ (pair_of e ∷ entries r)) (pair_of e ∷ (pair ed k v ∷ entries r))
      put_root v = rw (h.same_entries, put_at ed (pair ed k v) (entries l) (pair_of e) (entries r) h.lefts h.rights, p)

      without_root : without ed k (entries t) ≡ entries l ++ by_order o (entries r) (pair_of e ∷ entries r) (pair_of e ∷ entries r)
      without_root = rw (h.same_entries, without_at ed k (entries l) (pair_of e) (entries r) h.lefts h.rights, p)

    -- 1 get, 2 write if present, 6 remove, 5 insert.
    got : (k : K) (st : State K) {m : Met K} → Brought ed k st.tree m → Lives (get k) st (if_present ed (found ed) m st)
    unfolding if_present after reply find entries
    got k st (no_root q) = rw q (refl, refl)
    got k st (a_root equal e l r n p h) = rw (find_root k p h) (sym h.same_entries, refl)
    got k st (a_root (toward left) e l r n p h) = rw (find_root k p h) (sym h.same_entries, refl)
    got k st (a_root (toward right) e l r n p h) = rw (find_root k p h) (sym h.same_entries, refl)

    written : (k : K) (v : ℕ) (st : State K) {m : Met K} → Brought ed k st.tree m
        → Lives (write k v) st (if_present ed (replaced ed v) m st)
    unfolding if_present after reply find entries
    written k v st (no_root q) = rw q (refl, refl)
    written k v st (a_root equal e l r n p h) = rw (find_root k p h, put_root k p h v, laws.same k e.key p) (refl, refl)
    written k v st (a_root (toward left) e l r n p h) = rw (find_root k p h) (sym h.same_entries, refl)
    written k v st (a_root (toward right) e l r n p h) = rw (find_root k p h) (sym h.same_entries, refl)

    dropped : (k : K) (st : State K) {m : Met K} → Brought ed k st.tree m → Lives (remove k) st (if_present ed (removed ed k) m st)
    unfolding if_present after reply find without entries
    dropped k st (no_root q) = rw q (refl, refl)
    dropped k st (a_root equal e l r n p h) = rw (find_root k p h, without_root k p h) ((hung ed laws k l r h.lefts h.ascends).0, refl)
    dropped k st (a_root (toward left) e l r n p h) = rw (find_root k p h, without_root k p h) (refl, refl)
    dropped k st (a_root (toward right) e l r n p h) = rw (find_root k p h, without_root k p h) (refl, refl)

    stored_in : (k : K) (v : ℕ) (st : State K) {m : Met K} {x : Room} → Brought ed k st.tree m → Roomed st x
        → Lives (insert k v) st (inserted ed k v m x st)
    unfolding inserted after reply find put entries
    stored_in k v st (no_root q) (no_slot f) = rw (entries_length st.tree, f, q) (refl, refl)
    stored_in k v st (no_root q) (a_slot x more f g) = rw (entries_length st.tree, f, q) (refl, refl)
    stored_in k v st (a_root equal e l r n p h) x =
        rw (find_root k p h, put_root k p h v, laws.same k e.key p) (refl, refl)
    stored_in k v st (a_root (toward left) e l r n p h) (no_slot f) =
        rw (entries_length st.tree, f, find_root k p h) (sym h.same_entries, refl)
    stored_in k v st (a_root (toward right) e l r n p h) (no_slot f) =
        rw (entries_length st.tree, f, find_root k p h) (sym h.same_entries, refl)
    stored_in k v st (a_root (toward left) e l r n p h) (a_slot x more f g) =
        rw (entries_length st.tree, f, find_root k p h, put_root k p h v) (refl, refl)
    stored_in k v st (a_root (toward right) e l r n p h) (a_slot x more f g) =
        rw (entries_length st.tree, f, find_root k p h, put_root k p h v) (simp append_assoc, refl)

    entry_said : (best : Option (Entry K)) (n : ℕ) → said (entry_or ed best n) ≡ with_entry ed FOUND (known best)
    entry_said nil n = refl
    entry_said (some e) n = refl

    -- 3, 4: going down on the side d keeps the pair passed for the case that there is no nearer one.
    picked : (b : Bool) (x y : Answer K) (m n : Option (Pair K)) (p : Pair K) (q : Option (Pair K)) → (b ≡ false → m ≡ nil)
        → said x ≡ with_entry ed FOUND (or_else m (some p)) → said y ≡ with_entry ed FOUND (or_else n q)
        → said (choose b x y) ≡ with_entry ed FOUND (or_else (or_else m (choose b (some p) n)) q)
    picked true x y nil n p q f g h = g
    picked true x y (some o) n p q f g h = g
    picked false x y m n p q f g h = rw (f refl) h

    -- A key that does not lie on the side d of another is beyond all that the other is beyond.
    not_toward : (d : Side) (k a : K) (l : List (Pair K)) (o : Order) → ed.order k a ≡ o → is_toward d o ≡ false
        → Lies ed (other d) a l → Lies ed (other d) k l
    not_toward d k a l equal p q h = rw (laws.same k a p) h
    not_toward left k a l (toward left) p q h = absurd (let z : ◌≡◌ {A = ℕ} 0 1 = cc in omega arith)
    not_toward left k a l (toward right) p q h = lies_on ed laws right k a l p h
    not_toward right k a l (toward left) p q h = lies_on ed laws left k a l p h
    not_toward right k a l (toward right) p q h = absurd (let z : ◌≡◌ {A = ℕ} 0 1 = cc in omega arith)

    sought : (d : Side) (k : K) (t : Tree K) (best : Option (Entry K)) (n : ℕ) → Ascending ed (entries t)
        → said (seek ed d k t best n) ≡ with_entry ed FOUND (or_else (nearest d k (entries t)) (known best))
    unfolding seek above below entries
    sought left k none best n h = entry_said best n
    sought right k none best n h = entry_said best n
    sought left k (node e l r) best n h =
        let a = apart ed laws (entries l) (pair_of e) (entries r) h in
        rw (above_at ed k (entries l) (pair_of e) (entries r))
        (picked (is_toward left (ed.order k e.key)) _ _ _ _ _ _
        (λ q. above_none ed k (entries l) (not_toward left k e.key (entries l) _ refl q a.2))
        (sought left k l (some e) (suc n) a.0) (sought left k r best (suc n) a.1))
    sought right k (node e l r) best n h =
        let a = apart ed laws (entries l) (pair_of e) (entries r) h in
        rw (below_at ed k (entries l) (pair_of e) (entries r))
        (picked (is_toward right (ed.order k e.key)) _ _ _ _ _ _
        (λ q. below_none ed k (entries r) (not_toward right k e.key (entries r) _ refl q a.3))
        (sought right k r (some e) (suc n) a.1) (sought right k l best (suc n) a.0))

    -- 9, 10: what is risen to the root and taken is the outermost entry.
    raised : (d : Side) (near : Tree K) (e : Entry K) (far : Tree K) (st : State K)
        → (entries (raise ed d near e far st).state.tree ≡ rest d (entries (fork d e near far)))
        × (said (raise ed d near e far st).answer ≡ with_entry ed REMOVED (outside d (entries (fork d e near far))))
    unfolding raise last entries
    raised left none e far st = (refl, refl)
    raised right none e far st = rw (but_last_end (entries far) (pair_of e), last_at (entries far) (pair_of e) []) (refl, refl)
    raised left (node c l r) e far st = rw append_assoc (raised left l c (node e r far) st)
    raised right (node c l r) e far st = rw append_assoc at (raised right r c (node e far l) st)

    took : (d : Side) (st : State K) (t : Tree K) → st.tree ≡ t
        → (entries (taken ed d t st).state.tree ≡ rest d (entries t))
        × (said (taken ed d t st).answer ≡ with_entry ed REMOVED (outside d (entries t)))
    unfolding last but_last entries
    took left st none q = (rw q, refl)
    took right st none q = (rw q, refl)
    took left st (node e l r) q = raised left l e r st
    took right st (node e l r) q = raised right r e l st

    -- 3, 4 and 7, 8, whole.
    next_to : (d : Side) (k : K) (st : State K) → Fit ed st
        → (entries (neighbour ed d k st).state.tree ≡ entries st.tree)
        × (said (neighbour ed d k st).answer ≡ with_entry ed FOUND (nearest d k (entries st.tree)))
    next_to d k st h =
        let q = splay_keeps ed.order k st.tree in
        let best = sought d k (splay ed.order k st.tree).tree nil _ (rw q h.ascending) in
        (q, best ∙ rw (q, alone (nearest d k (entries st.tree))))

    at_end : (d : Side) (st : State K) → said (outer ed d st).answer ≡ with_entry ed FOUND (outside d (entries st.tree))
    at_end d st = entry_said (outermost d st.tree nil) 0 ∙ rw (ends d st.tree nil, alone (outside d (entries st.tree)))

    pub perform_live : (c : Command K) (st : State K) → Fit ed st
        → (entries (perform ed c st).state.tree ≡ after ed st.slots c (entries st.tree))
        × (said (perform ed c st).answer ≡ reply ed st.slots c (entries st.tree))
    unfolding perform after reply new entries
    perform_live (get k) st h = got k st (brings ed laws k st.tree h.ascending)
    perform_live (write k v) st h = written k v st (brings ed laws k st.tree h.ascending)
    perform_live (next k) st h = next_to left k st h
    perform_live (prev k) st h = next_to right k st h
    perform_live (insert k v) st h = stored_in k v st (brings ed laws k st.tree h.ascending) (rooms st h.low h.room)
    perform_live (remove k) st h = dropped k st (brings ed laws k st.tree h.ascending)
    perform_live min st h = (refl, at_end left st)
    perform_live max st h = (refl, at_end right st)
    perform_live take_first st h = took left st st.tree refl
    perform_live take_last st h = took right st st.tree refl
    perform_live clear st h = rw (entries_length st.tree) (refl, refl)
    perform_live len st h = rw (entries_length st.tree) (refl, refl)
    perform_live unknown st h = (refl, refl)
