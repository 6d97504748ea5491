-- When the header and the slots of some words are those of a state, the words are that state's arena, word for word. Two keys of two words
-- that are equal have equal words where the words are words (`Small`).
use mathlib.Core.List.{List, [], ◌∷◌, ◌++◌}
use mathlib.Core.Logic.{⊎_elim}
use mathlib.Core.Path.{◌≡◌, sym, ap, ◌∙◌}
use Prim.Native.Nat.{ℕ, zero, suc, ◌+◌, ◌*◌, ◌/◌, ◌-◌, ◌≤◌, ◌<◌}
use native.Mathlib.Nat.{eq-zero-or-pos}
use native.Mathlib.Omega.{arith}
use lib.ListN.{length, get_or, set, drop, length-drop}
use mir.Val.{Fits}
use mir.Syntax.{w32}
use lib.Seq.{ext_get_or, get_or-drop, get_or-set_other}
use Rattle.rules.specs.Edition.{edition, word_values, key_in, Width, Small}
use Rattle.rules.specs.Perform.{State}
use Rattle.rules.specs.Arena.{Slot, over, words, WellFormed}
use Rattle.rules.proofs.Order.{by_width, edition_lawful}
use Rattle.rules.proofs.Sound.{Sound}
use Rattle.rules.proofs.WellFormed.{well_formed, the_words}
use Rattle.node.proofs.Words.{slots, OfSlot, words_same}
use Rattle.heads.specs.Did.{Fair}
use Rattle.heads.specs.Slots.{Written}

-- The same key is the same words.
key_words : {wd : ℕ} → Width wd → (w w' : List ℕ) → Small w → Small w' → (p : ℕ) → key_in wd w' p ≡ key_in wd w p
    → (i : ℕ) → p ≤ i → i < p + wd → get_or w' i 0 ≡ get_or w i 0
key_words v w w' m m' p =
    by_width v (λ wd. key_in wd w' p ≡ key_in wd w p → (i : ℕ) → p ≤ i → i < p + wd → get_or w' i 0 ≡ get_or w i 0)
    (λ e i a b. (let q : i ≡ p = omega arith in rw q e))
    (λ e i a b.
    ⊎_elim
    (λ z. (let q : i ≡ p = omega arith in rw q (omega (arith, m (p + 1), m' (p + 1)))))
    (λ z. (let q : i ≡ p + 1 = omega arith in rw q (omega (arith, m (p + 1), m' (p + 1)))))
    (eq-zero-or-pos (i - p)))

three : (P : ℕ → Type 0) → P 0 → P 1 → P 2 → (j : ℕ) → j < 3 → P j
three P a b c zero h = a
three P a b c (suc zero) h = b
three P a b c (suc (suc zero)) h = c
three P a b c (suc (suc (suc j))) h = absurd (omega arith)

-- Slots that are the same have the same words.
same_words : {wd : ℕ} → Width wd → (w w' : List ℕ) → Small w → Small w' → (s : ℕ) → slots wd w' s ≡ slots wd w s
    → (i : ℕ) → OfSlot wd s i → get_or w' i 0 ≡ get_or w i 0
same_words {wd} v w w' m m' s e i o =
    ⊎_elim
    (λ z. key_words v w w' m m' _ (ap (λ (c : Slot ℕ). c.key) e) i (omega arith) (omega arith))
    (λ z.
    three (λ j. i ≡ 4 + (3 + wd) * s + wd + j → get_or w' i 0 ≡ get_or w i 0)
    (λ q. (let o : i ≡ 4 + (3 + wd) * s + wd = omega arith in rw o (ap (λ (c : Slot ℕ). c.value) e)))
    (λ q. (let o : i ≡ 4 + (3 + wd) * s + (1 + wd) = omega arith in rw o (ap (λ (c : Slot ℕ). c.left) e)))
    (λ q. (let o : i ≡ 4 + (3 + wd) * s + (2 + wd) = omega arith in rw o (ap (λ (c : Slot ℕ). c.right) e)))
    (i - (4 + (3 + wd) * s + wd)) (omega arith) (omega arith))
    (eq-zero-or-pos (suc i - (4 + (3 + wd) * s + wd)))

-- Every word from a slot on is one of that slot or a later one.
of_some_slot : {wd : ℕ} → Width wd → (n i : ℕ) → 4 + (3 + wd) * n ≤ i → (s : ℕ) × (n ≤ s) × OfSlot wd s i
of_some_slot v =
    by_width v (λ wd. (n i : ℕ) → 4 + (3 + wd) * n ≤ i → (s : ℕ) × (n ≤ s) × OfSlot wd s i)
    (λ n i h. ((i - 4) / 4, omega arith, omega arith)) (λ n i h. ((i - 4) / 5, omega arith, omega arith))

-- Words behind the last slot are the same where the slots from N on are.
pub same_rest : {wd : ℕ} → Width wd → (w w' : List ℕ) → Small w → Small w' → (n : ℕ) → length w' ≡ length w
    → ((s : ℕ) → n ≤ s → slots wd w' s ≡ slots wd w s) → drop (4 + (3 + wd) * n) w' ≡ drop (4 + (3 + wd) * n) w
same_rest {wd} v w w' m m' n e f =
    let p : ℕ = 4 + (3 + wd) * n in
    ext_get_or 0 _ _ (length-drop p w' ∙ ap (λ (k : ℕ). k - p) e ∙ sym (length-drop p w))
    (λ i h.
    (let (s, b, o) = of_some_slot v n (p + i) (omega arith) in
    get_or-drop p w' i 0 ∙ same_words v w w' m m' s (f s b) (p + i) o ∙ sym (get_or-drop p w i 0)))

pub record Settled (wd : ℕ) (w w' : List ℕ) (st : State ℕ) : Type 0 where
  pub words : w' ≡ over (edition wd) st w
  pub formed : WellFormed (edition wd) w' st

pub settle : {wd : ℕ} (w w' : List ℕ) → Fair wd w w' → (st : State ℕ) → 4 + (3 + wd) * st.slots ≤ length w
    → Sound (edition wd) st → Written wd w w' st → Settled wd w w' st
settle {wd} w w' b st long s p =
    let f : WellFormed (edition wd) w' st =
    well_formed (edition wd) s p.slot_count (rw p.len long) p.root p.live p.first p.nodes p.chain in
    record {
      words =
          the_words (edition wd) (edition_lawful b.width) w' b.after f
          ∙ ap (λ (r : List ℕ). words (edition wd) st ++ r) (same_rest b.width w w' b.before b.after st.slots p.len p.beyond);
      formed = f;
    }

-- What the type of a slice says of its words.
pub small : (w : List ℕ) → ((i : ℕ) → Fits w32 (get_or w i 0)) → Small w
small w m i = omega (arith, m i)

pub fair : {wd : ℕ} {w w' : List ℕ} → Width wd → ((i : ℕ) → Fits w32 (get_or w i 0)) → ((i : ℕ) → Fits w32 (get_or w' i 0)) → Fair wd w w'
fair {w = w} {w' = w'} v m m' = record { width = v; before = small w m; after = small w' m' }

-- Words stay words.
pub small_set : (w : List ℕ) (i v : ℕ) → Small w → v < word_values → Small (set w i v)
small_set [] i v m b j = m j
small_set (x ∷ w) zero v m b zero = b
small_set (x ∷ w) zero v m b (suc j) = m (suc j)
small_set (x ∷ w) (suc i) v m b zero = m 0
small_set (x ∷ w) (suc i) v m b (suc j) = small_set w i v (λ k. m (suc k)) b j

-- A header word stored.
pub header_slots : (wd : ℕ) (w : List ℕ) (i v : ℕ) → i < 4 → (s : ℕ) → slots wd (set w i v) s ≡ slots wd w s
header_slots wd w i v h s = words_same w (set w i v) s (λ j o. get_or-set_other w i j v 0 (omega arith))
