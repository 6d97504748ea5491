-- Well-formed arenas: what their state has, that there is no second state in the same words, and that the state determines the words.
use mathlib.Core.Bool.{Bool, true, false}
use mathlib.Core.List.{List, ◌∷◌, ◌++◌, append_assoc}
use mathlib.Core.Path.{◌≡◌, refl, sym, ◌∙◌, ap}
use Prim.Native.Nat.{ℕ, zero, suc, ◌+◌, ◌≤◌, ◌<◌}
use native.Mathlib.Nat.{mul-zero, mul-suc, mul-le-mul_left}
use native.Mathlib.Omega.{arith}
use lib.Dec.{leb}
use lib.ListN.{length, get_or, drop}
use lib.Seq.{drop-cons}
use borrow.Author.Tests.{leb-true, leb-false}
use Rattle.rules.specs.Edition.{Edition, Small}
use Rattle.rules.specs.Tree.{size, times, link_to}
use Rattle.rules.specs.Perform.{State, counting}
use Rattle.rules.specs.Arena.{Slot, first_link, listed, Holds, Chained, slot_of, slot_words, all_words, words, slot_size, place, slot_at, over, WellFormed}
use Rattle.rules.specs.Calls.{Checked, well_formed as formed, damaged}
use Rattle.rules.proofs.Order.{Lawful}
use Rattle.rules.proofs.Sound.{Sound}
use Rattle.rules.proofs.Pigeons.{total_add, total_times, total_listed, total_full}
use Rattle.rules.proofs.Held.{held_nothing, link_within, first_within, holds_once, holds_held, chain_once, chained_after, once_in_all}

module _ {K : Type 0} (ed : Edition K) where
  -- Every slot below N stands once, in the tree or on the chain.
  pub sound : {w : List ℕ} {st : State K} → WellFormed ed w st → Sound ed st
  sound {w} {st} a =
      record {
        some_slot = a.some_slot;
        in_range = a.in_range;
        cover =
            total_full st.slots (λ s. times s st.tree + listed s st.free)
            (once_in_all ed (slot_at ed w) st.slots st.tree st.free a.in_range a.nodes a.within a.once a.chain)
            (omega (
              arith,
              total_add st.slots (λ s. times s st.tree) (λ s. listed s st.free),
              total_times st.slots st.tree a.within,
              total_listed st.slots st.free a.chain_within,
              a.chain_length,
            ));
        outside = λ s b. omega (arith, a.within s b, a.chain_within s b);
        number = a.chain_length;
        ascending = a.ascending;
      }

  -- "The root link, the size and the first free link are at most N."
  pub header_within : {w : List ℕ} {st : State K} → WellFormed ed w st
      → (link_to st.tree ≤ st.slots) × (size st.tree ≤ st.slots) × (first_link st.free ≤ st.slots)
  header_within {w} {st} a = (
    link_within st.slots st.tree a.within,
    omega (arith, a.chain_length),
    first_within st.slots st.free a.chain_within,
  )

  -- In a sound state no slot stands twice.
  pub sound_once : {st : State K} → Sound ed st → (s : ℕ) → times s st.tree + listed s st.free ≤ 1
  sound_once {st} a s = by (leb st.slots s) refl
    where
      by : (b : Bool) → leb st.slots s ≡ b → times s st.tree + listed s st.free ≤ 1
      by true e = omega (arith, a.outside s (leb-true st.slots s e))
      by false e = omega (arith, a.cover s (leb-false st.slots s e))

  -- A sound state whose header, nodes and chain stand in the words makes them a well-formed arena.
  pub well_formed : {w : List ℕ} {st : State K} → Sound ed st → get_or w 0 0 ≡ st.slots → place ed st.slots ≤ length w
      → get_or w 1 0 ≡ link_to st.tree → get_or w 2 0 ≡ size st.tree → get_or w 3 0 ≡ first_link st.free
      → Holds (slot_at ed w) st.tree → Chained ed (slot_at ed w) st.free → WellFormed ed w st
  well_formed a slots long root size_word first_free nodes chain =
      record {
        slots = slots;
        long = long;
        some_slot = a.some_slot;
        in_range = a.in_range;
        root = root;
        size_word = size_word;
        first_free = first_free;
        nodes = nodes;
        within = λ s b. omega (arith, a.outside s b);
        once = λ s. omega (arith, sound_once a s);
        ascending = a.ascending;
        chain = chain;
        chain_within = λ s b. omega (arith, a.outside s b);
        chain_length = a.number;
      }

  state_same : (st st' : State K) → st.slots ≡ st'.slots → st.tree ≡ st'.tree → st.free ≡ st'.free → st ≡ st'
  state_same st st' p q r i = record { slots = p i; tree = q i; free = r i }

  -- No second state stands in the same words.
  pub the_state : {w : List ℕ} {st st' : State K} → WellFormed ed w st → WellFormed ed w st' → st ≡ st'
  the_state {w} {st} {st'} a b =
      state_same st st' (sym a.slots ∙ b.slots)
      (holds_once (slot_at ed w) st.tree st'.tree a.nodes b.nodes (sym a.root ∙ b.root))
      (chain_once ed (slot_at ed w) st.free st'.free a.chain b.chain (sym a.first_free ∙ b.first_free))

  -- So a call that checks its arena gives one thing.
  pub one_outcome : {A : Type 0} {w : List ℕ} {f : State K → A} {x a b : A} → Checked ed w f x a → Checked ed w f x b → a ≡ b
  one_outcome (formed st p e) (formed st' q e') = rw (e, e', the_state p q)
  one_outcome (formed st p e) (damaged no_state e') = absurd (no_state st p)
  one_outcome (damaged no_state e) (formed st q e') = absurd (no_state st q)
  one_outcome (damaged no_state e) (damaged no_state' e') = e ∙ sym e'

  -- What stands in a slot is what the state has in it.
  pub the_slot : {w : List ℕ} {st : State K} → WellFormed ed w st → (s : ℕ) → s < st.slots → slot_at ed w s ≡ slot_of ed st s
  unfolding slot_of
  the_slot {w} {st} a s b = by (times s st.tree) refl
    where
      by : (n : ℕ) → times s st.tree ≡ n → slot_at ed w s ≡ slot_of ed st s
      by zero e =
          rw (held_nothing s st.tree e)
          (chained_after ed (slot_at ed w) s st.free a.chain (omega (arith, (sound a).cover s b)))
      by (suc n) e = rw (holds_held (slot_at ed w) s st.tree a.nodes (omega arith))

  -- Where slots begin.
  pub place_zero : place ed 0 ≡ 4
  place_zero = rw mul-zero

  pub place_next : (s : ℕ) → place ed (suc s) ≡ place ed s + slot_size ed
  place_next s = omega (arith, mul-suc (slot_size ed) s)

  pub place_within : (s n : ℕ) → s < n → place ed s + slot_size ed ≤ place ed n
  place_within s n h = omega (arith, place_next s, mul-le-mul_left (slot_size ed) h)

  module _ (laws : Lawful ed) (w : List ℕ) (small : Small w) where
    -- One word more, at an index written in any way.
    word_then : (i j v : ℕ) (r : List ℕ) → i < length w → j ≡ suc i → get_or w i 0 ≡ v → drop j w ≡ r → drop i w ≡ v ∷ r
    word_then i j v r h e p q = drop-cons w i 0 h ∙ (rw (p, ← e, q))

    -- The words from a slot on begin with what stands in it.
    pub slot_then : (s : ℕ) → place ed s + slot_size ed ≤ length w
        → drop (place ed s) w ≡ slot_words ed (slot_at ed w s) ++ drop (place ed (suc s)) w
    slot_then s h =
        let i : ℕ = place ed s + ed.width in
        let j : ℕ = place ed s + (1 + ed.width) in
        let k : ℕ = place ed s + (2 + ed.width) in
        laws.respell w small (place ed s) (omega arith)
        ∙ rw append_assoc
        (ap (λ (x : List ℕ). ed.spell (ed.key_at w (place ed s)) ++ x)
        (word_then i j _ _ (omega arith) (omega arith) refl
        (word_then j k _ _ (omega arith) (omega arith) refl
        (word_then k (place ed (suc s)) _ _ (omega arith) (omega (arith, place_next s)) refl refl))))

    from_slot : {st : State K} → WellFormed ed w st → (n s : ℕ) → s + n ≡ st.slots
        → drop (place ed s) w ≡ all_words ed st (counting n s) ++ drop (place ed st.slots) w
    unfolding all_words counting
    from_slot {st} a zero s e = let p : s ≡ st.slots = omega arith in rw p
    from_slot {st} a (suc n) s e =
        slot_then s (omega (arith, a.long, place_within s st.slots (omega arith)))
        ∙ ap (λ (c : Slot K). slot_words ed c ++ drop (place ed (suc s)) w) (the_slot a s (omega arith))
        ∙ rw (from_slot a n (suc s) (omega arith)) (simp append_assoc)

    -- The state determines every word but those behind its last slot.
    pub the_words : {st : State K} → WellFormed ed w st → w ≡ over ed st w
    unfolding words
    the_words {st} a =
        word_then 0 1 _ _ (omega (arith, a.long)) refl a.slots
        (word_then 1 2 _ _ (omega (arith, a.long)) refl a.root
        (word_then 2 3 _ _ (omega (arith, a.long)) refl a.size_word
        (word_then 3 (place ed 0) _ _ (omega (arith, a.long)) place_zero a.first_free (from_slot a st.slots 0 (omega arith)))))
