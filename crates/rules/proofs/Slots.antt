-- Every slot of a well-formed arena holds an entry of its tree, or is free and on the chain.
use mathlib.Core.List.{List, [], ◌∷◌, ◌++◌}
use mathlib.Core.Logic.{◌⊎◌, inl, inr}
use mathlib.Core.Option.{some}
use mathlib.Core.Path.{◌≡◌, refl, sym, ◌∙◌, ap}
use Prim.Native.Nat.{ℕ, zero, suc, ◌+◌, ◌≤◌, ◌<◌}
use native.Mathlib.Omega.{arith}
use lib.ListN.{length}
use Rattle.rules.specs.Order.{Side, left, right, Order, equal, toward, by_order}
use Rattle.rules.specs.Edition.{Edition}
use Rattle.rules.specs.Live.{Pair, Ascending, find, pair}
use Rattle.rules.specs.Tree.{Entry, Tree, none, node, hit, times, pair_of, entries}
use Rattle.rules.specs.Perform.{State}
use Rattle.rules.specs.Arena.{Slot, listed, Holds, slot_at, WellFormed}
use Rattle.rules.specs.Demands.{InUse, Free, Stands, Holding}
use Rattle.rules.proofs.Order.{Lawful, self}
use Rattle.rules.proofs.Hit.{hit_same, hit_cases}
use Rattle.rules.proofs.Pigeons.{Same, below}
use Rattle.rules.proofs.Held.{chained_after}
use Rattle.rules.proofs.Ascending.{Lies, find_aside, find_at, lies_on, apart}
use Rattle.rules.proofs.Brought.{entries_length}
use Rattle.rules.proofs.WellFormed.{sound}

-- A slot is not on a chain more often than the chain is long.
listed_few : (s : ℕ) (c : List ℕ) → listed s c ≤ length c
listed_few s [] = omega arith
listed_few s (x ∷ c) = by (hit_cases s x) (listed_few s c)
  where
    by : Same s x → listed s c ≤ length c → hit s x + listed s c ≤ suc (length c)
    by (inl (same, one)) h = omega arith
    by (inr (other, no_hit)) h = omega arith

module _ {K : Type 0} (ed : Edition K) where
  -- Where there are as many entries as slots, each slot holds one.
  pub all_used : {n : ℕ} {l : List (Pair K)} {w : List ℕ} (h : Holding ed n l w) → length l ≡ n → (s : ℕ) → s < n
      → InUse ed l w h.state s
  all_used {l = l} {w = w} h e s b = by (h.each_slot s b)
    where
      by : InUse ed l w h.state s ⊎ Free ed w h.state s → InUse ed l w h.state s
      by (inl u) = u
      by (inr f) = absurd (omega (arith, f.on_chain, listed_few s h.state.free, h.number))

  -- A key found in the first of two lists is found in both.
  find_first : (k : K) (p : Pair K) (l m : List (Pair K)) → find ed k l ≡ some p → find ed k (l ++ m) ≡ some p
  unfolding find
  find_first k p [] m e = absurd (let z : ◌≡◌ {A = ℕ} 0 1 = cc in omega arith)
  find_first k p (x ∷ l) m e = by (ed.order k x.key) refl (find_first k p l m)
    where
      by : (o : Order) → ed.order k x.key ≡ o → (find ed k l ≡ some p → find ed k (l ++ m) ≡ some p)
          → by_order (ed.order k x.key) (some x) (find ed k (l ++ m)) (find ed k (l ++ m)) ≡ some p
      by equal q rec = rw q (rw q at e)
      by (toward left) q rec = rw q (rec (rw q at e))
      by (toward right) q rec = rw q (rec (rw q at e))

  -- A key found in two lists is found in one of them.
  find_either : (k : K) (p : Pair K) (l m : List (Pair K)) → find ed k (l ++ m) ≡ some p → (find ed k l ≡ some p) ⊎ (find ed k m ≡ some p)
  unfolding find
  find_either k p [] m e = inr e
  find_either k p (x ∷ l) m e = by (ed.order k x.key) refl (find_either k p l m)
    where
      by : (o : Order) → ed.order k x.key ≡ o
          → (find ed k (l ++ m) ≡ some p → (find ed k l ≡ some p) ⊎ (find ed k m ≡ some p))
          → (by_order (ed.order k x.key) (some x) (find ed k l) (find ed k l) ≡ some p) ⊎ (find ed k m ≡ some p)
      by equal q rec = rw q (inl (rw q at e))
      by (toward left) q rec = rw q (rec (rw q at e))
      by (toward right) q rec = rw q (rec (rw q at e))

  -- Each entry of a tree stands in a slot of it.
  live_held : (at : ℕ → Slot K) (k : K) (p : Pair K) (t : Tree K) → Holds at t → find ed k (entries t) ≡ some p
      → (s : ℕ) × (1 ≤ times s t) × ((at s).key ≡ p.key) × ((at s).value ≡ p.value)
  unfolding find entries
  live_held at k p none h e = absurd (let z : ◌≡◌ {A = ℕ} 0 1 = cc in omega arith)
  live_held at k p (node e l r) h f =
      by (find_either k p (entries l) (pair_of e ∷ entries r) f) (ed.order k e.key) refl (live_held at k p l h.1)
      (live_held at k p r h.2)
    where
      by : (find ed k (entries l) ≡ some p) ⊎ (find ed k (pair_of e ∷ entries r) ≡ some p) → (o : Order) → ed.order k e.key ≡ o
          → (find ed k (entries l) ≡ some p → (s : ℕ) × (1 ≤ times s l) × ((at s).key ≡ p.key) × ((at s).value ≡ p.value))
          → (find ed k (entries r) ≡ some p → (s : ℕ) × (1 ≤ times s r) × ((at s).key ≡ p.key) × ((at s).value ≡ p.value))
          → (s : ℕ) × (1 ≤ times s (node e l r)) × ((at s).key ≡ p.key) × ((at s).value ≡ p.value)
      by (inl g) o q on_left on_right = let x = on_left g in (x.0, omega (arith, x.1), x.2, x.3)
      by (inr g) equal q on_left on_right =
          let y : some (pair_of e) ≡ some p = rw q at g in
          let z : pair_of e ≡ p = cc in (
            e.slot,
            omega (arith, hit_same e.slot),
            ap (λ (c : Slot K). c.key) h.0 ∙ ap (λ (c : Pair K). c.key) z,
            ap (λ (c : Slot K). c.value) h.0 ∙ ap (λ (c : Pair K). c.value) z,
          )
      by (inr g) (toward left) q on_left on_right = let x = on_right (rw q at g) in (x.0, omega (arith, x.1), x.2, x.3)
      by (inr g) (toward right) q on_left on_right = let x = on_right (rw q at g) in (x.0, omega (arith, x.1), x.2, x.3)

  stands : {w : List ℕ} {st : State K} → WellFormed ed w st → (k : K) (p : Pair K) → find ed k (entries st.tree) ≡ some p
      → Stands ed st.slots w p
  stands {w} {st} a k p e =
      let x = live_held (slot_at ed w) k p st.tree a.nodes e in
      record {
        slot = x.0;
        below = below st.slots x.0 (times x.0 st.tree) (a.within x.0) x.1;
        its_key = x.2;
        its_value = x.3;
      }

  module _ (laws : Lawful ed) where
    -- A key that lies on a side of a list's keys lies there of each that is found in it.
    lies_found : (s : Side) (a k : K) (p : Pair K) (l : List (Pair K)) → Lies ed s a l → find ed k l ≡ some p → ed.order a k ≡ toward s
    unfolding find
    lies_found s a k p [] h e = absurd (let z : ◌≡◌ {A = ℕ} 0 1 = cc in omega arith)
    lies_found s a k p (x ∷ l) h e = by (ed.order k x.key) refl (lies_found s a k p l h.1)
      where
        by : (o : Order) → ed.order k x.key ≡ o → (find ed k l ≡ some p → ed.order a k ≡ toward s) → ed.order a k ≡ toward s
        by equal q rec = rw (laws.same k x.key q) h.0
        by (toward left) q rec = rec (rw q at e)
        by (toward right) q rec = rec (rw q at e)

    -- A key found behind an entry that lies before it is found in the whole.
    find_last : (k : K) (p : Pair K) (l : List (Pair K)) (x : Pair K) (r : List (Pair K)) → Lies ed right x.key l → Lies ed left x.key r
        → find ed k r ≡ some p → find ed k (l ++ (x ∷ r)) ≡ some p
    unfolding find
    find_last k p l x r h b e =
        let q : ed.order k x.key ≡ toward right = laws.flip left x.key k (lies_found left x.key k p r b e) in
        find_aside ed right k l (x ∷ r) (lies_on ed laws right k x.key l q h) ∙ rw q e

    -- What a slot of the tree holds is found among the entries.
    held_live : (at : ℕ → Slot K) (s : ℕ) (t : Tree K) → Ascending ed (entries t) → Holds at t → 1 ≤ times s t
        → find ed (at s).key (entries t) ≡ some (pair ed (at s).key (at s).value)
    unfolding entries
    held_live at s none a h m = absurd (omega arith)
    held_live at s (node e l r) a h m =
        by (hit_cases s e.slot) (times s l) refl (held_live at s l parts.0 h.1) (held_live at s r parts.1 h.2)
      where
        parts : Ascending ed (entries l) × Ascending ed (entries r) × Lies ed right e.key (entries l) × Lies ed left e.key (entries r)
        parts = apart ed laws (entries l) (pair_of e) (entries r) a

        by : Same s e.slot → (n : ℕ) → times s l ≡ n
            → (1 ≤ times s l → find ed (at s).key (entries l) ≡ some (pair ed (at s).key (at s).value))
            → (1 ≤ times s r → find ed (at s).key (entries r) ≡ some (pair ed (at s).key (at s).value))
            → find ed (at s).key (entries l ++ (pair_of e ∷ entries r)) ≡ some (pair ed (at s).key (at s).value)
        by (inl (same, one)) n p f g =
            rw (same, h.0, find_at ed e.key (entries l) (pair_of e) (entries r) parts.2 parts.3, self ed laws e.key)
        by (inr (other, no_hit)) (suc n) p f g = find_first _ _ (entries l) (pair_of e ∷ entries r) (f (omega arith))
        by (inr (other, no_hit)) zero p f g =
            find_last _ _ (entries l) (pair_of e) (entries r) parts.2 parts.3 (g (omega arith))

    -- Where a slot of a tree is, and how the root's key compares with the key there.
    data Placed (at : ℕ → Slot K) (s : ℕ) (e : Entry K) (l r : Tree K) : Type 0 where
      at_root : s ≡ e.slot → ed.order e.key (at s).key ≡ equal → Placed at s e l r
      on_left : 1 ≤ times s l → ed.order e.key (at s).key ≡ toward right → Placed at s e l r
      on_right : 1 ≤ times s r → ed.order e.key (at s).key ≡ toward left → Placed at s e l r

    placed : (at : ℕ → Slot K) (s : ℕ) (e : Entry K) (l r : Tree K) → Ascending ed (entries (node e l r)) → Holds at (node e l r)
        → 1 ≤ times s (node e l r) → Placed at s e l r
    unfolding entries
    placed at s e l r a h m = by (hit_cases s e.slot) (times s l) refl
      where
        parts : Ascending ed (entries l) × Ascending ed (entries r) × Lies ed right e.key (entries l) × Lies ed left e.key (entries r)
        parts = apart ed laws (entries l) (pair_of e) (entries r) a

        by : Same s e.slot → (n : ℕ) → times s l ≡ n → Placed at s e l r
        by (inl (same, one)) n p = at_root same (rw (same, h.0) (self ed laws e.key))
        by (inr (other, no_hit)) (suc n) p =
            let b : 1 ≤ times s l = omega arith in
            on_left b (lies_found right e.key _ _ (entries l) parts.2 (held_live at s l parts.0 h.1 b))
        by (inr (other, no_hit)) zero p =
            let b : 1 ≤ times s r = omega arith in
            on_right b (lies_found left e.key _ _ (entries r) parts.3 (held_live at s r parts.1 h.2 b))

    -- No key stands in two slots of a tree.
    same_slot : (at : ℕ → Slot K) (s s' : ℕ) (t : Tree K) → Ascending ed (entries t) → Holds at t → 1 ≤ times s t → 1 ≤ times s' t
        → (at s).key ≡ (at s').key → s ≡ s'
    unfolding entries
    same_slot at s s' none a h m m' e = absurd (omega arith)
    same_slot at s s' (node x l r) a h m m' e =
        let parts = apart ed laws (entries l) (pair_of x) (entries r) a in
        by (placed at s x l r a h m) (placed at s' x l r a h m') (λ b b'. same_slot at s s' l parts.0 h.1 b b' e)
        (λ b b'. same_slot at s s' r parts.1 h.2 b b' e)
      where
        never : (o o' : Order) → ed.order x.key (at s).key ≡ o → ed.order x.key (at s').key ≡ o' → o ≡ o'
        never o o' p q = sym p ∙ ap (λ (k : K). ed.order x.key k) e ∙ q

        by : Placed at s x l r → Placed at s' x l r → (1 ≤ times s l → 1 ≤ times s' l → s ≡ s') → (1 ≤ times s r → 1 ≤ times s' r → s ≡ s')
            → s ≡ s'
        by (at_root p q) (at_root p' q') f g = p ∙ sym p'
        by (at_root p q) (on_left p' q') f g = absurd (let y = never _ _ q q' in let z : ◌≡◌ {A = ℕ} 0 1 = cc in omega arith)
        by (at_root p q) (on_right p' q') f g = absurd (let y = never _ _ q q' in let z : ◌≡◌ {A = ℕ} 0 1 = cc in omega arith)
        by (on_left p q) (at_root p' q') f g = absurd (let y = never _ _ q q' in let z : ◌≡◌ {A = ℕ} 0 1 = cc in omega arith)
        by (on_left p q) (on_left p' q') f g = f p p'
        by (on_left p q) (on_right p' q') f g = absurd (let y = never _ _ q q' in let z : ◌≡◌ {A = ℕ} 0 1 = cc in omega arith)
        by (on_right p q) (at_root p' q') f g = absurd (let y = never _ _ q q' in let z : ◌≡◌ {A = ℕ} 0 1 = cc in omega arith)
        by (on_right p q) (on_left p' q') f g = absurd (let y = never _ _ q q' in let z : ◌≡◌ {A = ℕ} 0 1 = cc in omega arith)
        by (on_right p q) (on_right p' q') f g = g p p'

    each : {w : List ℕ} {st : State K} → WellFormed ed w st → (s : ℕ) → s < st.slots
        → InUse ed (entries st.tree) w st s ⊎ Free ed w st s
    each {w} {st} a s b = by (times s st.tree) refl
      where
        by : (n : ℕ) → times s st.tree ≡ n → InUse ed (entries st.tree) w st s ⊎ Free ed w st s
        by zero e =
            inr
            (record {
              off_tree = e;
              on_chain = omega (arith, (sound ed a).cover s b);
              zeros = chained_after ed (slot_at ed w) s st.free a.chain (omega (arith, (sound ed a).cover s b));
            })
        by (suc n) e =
            inl
            (record {
              in_tree = omega (arith, (sound ed a).cover s b);
              off_chain = omega (arith, (sound ed a).cover s b);
              live_there = held_live (slot_at ed w) s st.tree a.ascending a.nodes (omega arith);
            })

    -- A well-formed arena holds exactly the entries of its tree.
    pub holding : (n : ℕ) (l : List (Pair K)) {w : List ℕ} {st : State K} → WellFormed ed w st → st.slots ≡ n → entries st.tree ≡ l
        → Holding ed n l w
    holding n l {w} {st} a p q =
        record {
          state = st;
          formed = a;
          slots = p;
          exactly = q;
          ascending = rw q at a.ascending;
          number = rw (← q, entries_length st.tree) (omega (arith, a.chain_length));
          each_entry = λ k x e. rw p at (stands a k x (q_find k x e));
          each_slot = λ s b. rw q at (each a s (omega arith));
          none_twice = λ s s' u u' e.
              same_slot (slot_at ed w) s s' st.tree a.ascending a.nodes (omega (arith, u.in_tree)) (omega (arith, u'.in_tree)) e;
        }
      where
        q_find : (k : K) (x : Pair K) → find ed k l ≡ some x → find ed k (entries st.tree) ≡ some x
        q_find k x e = rw q e
