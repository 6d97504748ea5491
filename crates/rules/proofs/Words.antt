-- The words of a sound state hold it: what stands in its slots is its tree and its chain, and each slot is read back as it was written.
use mathlib.Core.List.{List, [], ◌∷◌, ◌++◌, append_assoc}
use mathlib.Core.Logic.{inl, inr}
use mathlib.Core.Option.{Option, none as nil, some}
use mathlib.Core.Path.{◌≡◌, refl, sym, ◌∙◌, ap, subst}
use Prim.Native.Nat.{ℕ, zero, suc, ◌+◌, ◌*◌, ◌≤◌, ◌<◌}
use native.Mathlib.Nat.{mul-zero, mul-suc}
use native.Mathlib.Omega.{arith}
use lib.ListN.{length, get_or, take, drop, length-append, length-drop}
use lib.Seq.{take_at, drop_at, get_or-append-add}
use Rattle.rules.specs.Edition.{Edition, Small}
use Rattle.rules.specs.Tree.{Tree, none, node, size, times, link_to}
use Rattle.rules.specs.Perform.{State, counting}
use Rattle.rules.specs.Arena.{Slot, first_link, link_after, listed, content, held, Holds, free_slot, Chained, or_free, slot_of, slot_words, all_words, words, slot_size, place, slot_at, over, WellFormed}
use Rattle.rules.proofs.Order.{Lawful}
use Rattle.rules.proofs.Sound.{Sound}
use Rattle.rules.proofs.Hit.{hit_same, hit_cases}
use Rattle.rules.proofs.Pigeons.{Same, hit_one}
use Rattle.rules.proofs.Held.{held_here, held_left, held_right, held_nothing, link_after_here, link_after_later, holds_frame, chained_frame}
use Rattle.rules.proofs.WellFormed.{sound, sound_once, well_formed, place_zero, place_next, the_words}

module _ {K : Type 0} where
  -- Where the tree has nothing, it has no node.
  pub held_none : (s : ℕ) (t : Tree K) → held s t ≡ nil → times s t ≡ 0
  held_none s none e = refl
  held_none s (node x l r) e = by (hit_cases s x.slot) (held s l) refl (λ p. held_none s l p) (λ p. held_none s r p)
    where
      never : (c : Slot K) → held s (node x l r) ≡ some c → ⊥
      never c p = let z : ◌≡◌ {A = ℕ} 0 1 = cc in omega arith

      by : Same s x.slot → (o : Option (Slot K)) → held s l ≡ o → (held s l ≡ nil → times s l ≡ 0) → (held s r ≡ nil → times s r ≡ 0)
          → times s (node x l r) ≡ 0
      by (inl (same, one)) o p f g = absurd (never (content x l r) (held_here s x l r same))
      by (inr (other, no_hit)) (some c) p f g = absurd (never c (held_left s x l r c other p))
      by (inr (other, no_hit)) nil p f g = omega (arith, f p, g (sym (held_right s x l r other p) ∙ e))

  -- Slots that hold what a tree has in each hold the tree, where no slot stands in it twice.
  pub held_holds : (at : ℕ → Slot K) (t : Tree K) → ((s : ℕ) → times s t ≤ 1)
      → ((s : ℕ) → 1 ≤ times s t → held s t ≡ some (at s)) → Holds at t
  held_holds at none once h = tt
  held_holds at (node e l r) once h = (
    here,
    held_holds at l (λ s. omega (arith, once s)) (λ s b. on_left s b (held s l) refl),
    held_holds at r (λ s. omega (arith, once s)) (λ s b. on_right s b),
  )
    where
      here : at e.slot ≡ content e l r
      here =
          let p : held e.slot (node e l r) ≡ some (content e l r) = held_here e.slot e l r refl in
          let q : held e.slot (node e l r) ≡ some (at e.slot) = h e.slot (omega (arith, hit_same e.slot)) in
          cc

      other : (s : ℕ) → 1 ≤ times s l + times s r → s ≡ e.slot → ⊥
      other s b p = omega (arith, once s, hit_one s e.slot p)

      on_left : (s : ℕ) → 1 ≤ times s l → (o : Option (Slot K)) → held s l ≡ o → held s l ≡ some (at s)
      on_left s b nil p = absurd (omega (arith, held_none s l p))
      on_left s b (some c) p = p ∙ sym (held_left s e l r c (other s (omega arith)) p) ∙ h s (omega arith)

      on_right : (s : ℕ) → 1 ≤ times s r → held s r ≡ some (at s)
      on_right s b = sym (held_right s e l r (other s (omega arith)) (held_nothing s l (omega (arith, once s)))) ∙ h s (omega arith)

module _ {K : Type 0} (ed : Edition K) where
  -- Slots that are free with the links of a chain hold the chain, where no slot is on it twice.
  pub links_chained : (at : ℕ → Slot K) (c : List ℕ) → ((s : ℕ) → listed s c ≤ 1)
      → ((s : ℕ) → 1 ≤ listed s c → at s ≡ free_slot ed (link_after s c)) → Chained ed at c
  links_chained at [] once h = tt
  links_chained at (x ∷ c) once h = (
    h x (omega (arith, hit_same x)) ∙ ap (free_slot ed) (link_after_here x x c refl),
    links_chained at c (λ s. omega (arith, once s)) (λ s b. h s (omega arith) ∙ ap (free_slot ed) (link_after_later s x c (other s b))),
  )
    where
      other : (s : ℕ) → 1 ≤ listed s c → s ≡ x → ⊥
      other s b p = omega (arith, once s, hit_one s x p)

  -- What a tree and a chain have in their slots holds them, whatever stands in the others.
  pub tree_holds : (next : ℕ → ℕ) (t : Tree K) → ((s : ℕ) → times s t ≤ 1) → Holds (λ s. or_free ed (held s t) (next s)) t
  tree_holds next t once = held_holds (λ s. or_free ed (held s t) (next s)) t once (λ s b. by s b (held s t) refl)
    where
      by : (s : ℕ) → 1 ≤ times s t → (o : Option (Slot K)) → held s t ≡ o → o ≡ some (or_free ed o (next s))
      by s b nil p = absurd (omega (arith, held_none s t p))
      by s b (some c) p = refl

  -- What a sound state has in its slots holds its tree and its chain.
  module _ {st : State K} (a : Sound ed st) where
    pub state_holds : Holds (slot_of ed st) st.tree
    unfolding slot_of
    state_holds = tree_holds (λ s. link_after s st.free) st.tree (λ s. omega (arith, sound_once ed a s))

    pub state_chained : Chained ed (slot_of ed st) st.free
    unfolding slot_of
    state_chained =
        links_chained (slot_of ed st) st.free (λ s. omega (arith, sound_once ed a s))
        (λ s b. rw (held_nothing s st.tree (omega (arith, sound_once ed a s))))

-- A word after two lists.
word_after : (a p m : List ℕ) (i j : ℕ) → i ≡ length a + (length p + j) → get_or (a ++ (p ++ m)) i 0 ≡ get_or m j 0
word_after a p m i j e = rw (e, get_or-append-add, get_or-append-add)

module _ {K : Type 0} (ed : Edition K) (laws : Lawful ed) where
  slot_same : (c d : Slot K) → c.key ≡ d.key → c.value ≡ d.value → c.left ≡ d.left → c.right ≡ d.right → c ≡ d
  slot_same c d p q r s i = record { key = p i; value = q i; left = r i; right = s i }

  -- A slot that was written is read back.
  pub slot_read : (a b : List ℕ) (c : Slot K) (s : ℕ) → length a ≡ place ed s → slot_at ed (a ++ (slot_words ed c ++ b)) s ≡ c
  slot_read a b c s e =
      let n : length (ed.spell c.key) ≡ ed.width = laws.spell_length c.key in
      let m : List ℕ = c.value ∷ c.left ∷ c.right ∷ b in
      rw append_assoc
      (slot_same _ c
      (rw (← e) (laws.reread a c.key m))
      (word_after a (ed.spell c.key) m _ 0 (omega arith))
      (word_after a (ed.spell c.key) m _ 1 (omega arith))
      (word_after a (ed.spell c.key) m _ 2 (omega arith)))

  pub length_slot : (c : Slot K) → length (slot_words ed c) ≡ slot_size ed
  length_slot c = simp length-append (omega (arith, laws.spell_length c.key))

  module _ (st : State K) where
    -- So is every slot of a row of slots.
    all_read : (n from s : ℕ) (a b : List ℕ) → length a ≡ place ed from → from ≤ s → s < from + n
        → slot_at ed (a ++ (all_words ed st (counting n from) ++ b)) s ≡ slot_of ed st s
    unfolding all_words counting
    all_read zero from s a b e h k = absurd (omega arith)
    all_read (suc n) from s a b e h k = by (hit_cases s from) (all_read n (suc from) s (a ++ x) b)
      where
        x : List ℕ
        x = slot_words ed (slot_of ed st from)

        y : List ℕ
        y = all_words ed st (counting n (suc from))

        by : Same s from
            → (length (a ++ x) ≡ place ed (suc from) → suc from ≤ s → s < suc from + n → slot_at ed ((a ++ x) ++ (y ++ b)) s ≡ slot_of ed st s)
            → slot_at ed (a ++ ((x ++ y) ++ b)) s ≡ slot_of ed st s
        by (inl (same, one)) rec = rw (append_assoc x y b, same) (slot_read a (y ++ b) (slot_of ed st from) from e)
        by (inr (other, no_hit)) rec =
            rw (append_assoc x y b, ← append_assoc a x (y ++ b))
            (rec (omega (arith, length-append a x, length_slot (slot_of ed st from), place_next ed from)) (omega arith) (omega arith))

    pub length_all : (n from : ℕ) → length (all_words ed st (counting n from)) ≡ slot_size ed * n
    unfolding all_words counting
    length_all zero from = sym (mul-zero (slot_size ed))
    length_all (suc n) from =
        omega (
          arith,
          length-append (slot_words ed (slot_of ed st from)) (all_words ed st (counting n (suc from))),
          length_slot (slot_of ed st from),
          length_all n (suc from),
          mul-suc (slot_size ed) n,
        )

    pub length_words : length (words ed st) ≡ place ed st.slots
    unfolding words
    length_words = omega (arith, length_all st.slots 0)

    pub length_over : (w : List ℕ) → place ed st.slots ≤ length w → length (over ed st w) ≡ length w
    length_over w h = simp (length-append, length_words, length-drop) (omega arith)

    -- What is read in each slot of the state's words.
    pub slot_over : (w : List ℕ) (s : ℕ) → s < st.slots → slot_at ed (over ed st w) s ≡ slot_of ed st s
    unfolding words
    slot_over w s h =
        all_read st.slots 0 s (st.slots ∷ link_to st.tree ∷ size st.tree ∷ first_link st.free ∷ [])
        (drop (place ed st.slots) w) (sym (place_zero ed)) (omega arith) (omega arith)

  -- The words of a sound state are a well-formed arena that holds it.
  pub over_formed : {st : State K} → Sound ed st → (w : List ℕ) → place ed st.slots ≤ length w → WellFormed ed (over ed st w) st
  unfolding words
  over_formed {st} a w h =
      well_formed ed a refl (rw (length_over st w h) h) refl refl refl
      (holds_frame (slot_at ed (over ed st w)) (slot_of ed st) st.tree (λ s b. same s (omega arith)) (state_holds ed a))
      (chained_frame ed (slot_at ed (over ed st w)) (slot_of ed st) st.free (λ s b. same s (omega arith)) (state_chained ed a))
    where
      same : (s : ℕ) → 1 ≤ times s st.tree + listed s st.free → slot_at ed (over ed st w) s ≡ slot_of ed st s
      same s b = let k : st.slots ≤ s → ⊥ = (λ k. omega (arith, a.outside s k)) in slot_over st w s (omega arith)

  -- "No call writes these words or depends on them": whatever stands behind the last slot, the arena is well formed with the same
  -- state.
  pub any_tail : (a b c : List ℕ) {st : State K} → length a ≡ place ed st.slots
      → Small (a ++ b) → WellFormed ed (a ++ b) st → WellFormed ed (a ++ c) st
  any_tail a b c {st} e small f =
      subst (λ (w : List ℕ). WellFormed ed w st) kept (over_formed (sound ed f) (a ++ c) (omega (arith, length-append a c)))
    where
      n : ℕ
      n = place ed st.slots

      same : a ≡ words ed st
      same =
          sym (take_at a b n e)
          ∙ ap (take n) (the_words ed laws (a ++ b) small f)
          ∙ take_at (words ed st) (drop n (a ++ b)) n (length_words st)

      kept : over ed st (a ++ c) ≡ a ++ c
      kept = rw (drop_at a c n e, ← same)

  -- A state's words written over another's, of as many slots, leave nothing of the other's.
  pub over_over : (st st' : State K) (w : List ℕ) → st.slots ≡ st'.slots → over ed st' (over ed st w) ≡ over ed st' w
  over_over st st' w e =
      ap (λ (r : List ℕ). words ed st' ++ r)
      (drop_at (words ed st) (drop (place ed st.slots) w) (place ed st'.slots) (length_words st ∙ ap (place ed) e)
      ∙ ap (λ (n : ℕ). drop (place ed n) w) e)
