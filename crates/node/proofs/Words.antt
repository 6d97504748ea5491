-- The words of an arena as a memory of slots: what reading a word gives, and what storing one changes. The laws are for both widths of a
-- key; only where two slots must be told apart are the widths taken one by one.
use mathlib.Core.List.{List}
use mathlib.Core.Path.{◌≡◌, refl, sym, ap, ◌∙◌, subst}
use Prim.Native.Nat.{ℕ, zero, suc, ◌+◌, ◌*◌, ◌-◌, ◌<◌, ◌≤◌}
use native.Mathlib.Omega.{arith}
use lib.ListN.{length, get_or, set, length-set}
use Rattle.std.proofs.lemmas.Grind.{common_steps}
use lib.Seq.{get_or-set_same, get_or-set_other, sets}
use Rattle.rules.specs.Order.{Side, left, right}
use Rattle.rules.specs.Edition.{edition, spelled, key_in, Width}
use Rattle.rules.specs.Arena.{Slot, slot_at}
use Rattle.rules.proofs.Order.{by_width}
use Rattle.node.specs.Stands.{off, Kept, Inside, Filled, Rekeyed}
use Rattle.node.proofs.Memory.{link_on, with_link, Relinked}

pub off_low : (d : Side) → off d < 4
off_low left = omega arith
off_low right = omega arith

-- The slots of the words.
abbrev pub slots : ℕ → List ℕ → ℕ → Slot ℕ
slots wd w = slot_at (edition wd) w

pub link_word : (d : Side) (wd : ℕ) (w : List ℕ) (x s : ℕ) → x ≡ suc s → get_or w ((3 + wd) * x + off d) 0 ≡ link_on d (slots wd w s)
link_word left wd w x s e = rw e (ap (λ (i : ℕ). get_or w i 0) (omega arith))
link_word right wd w x s e = rw e (ap (λ (i : ℕ). get_or w i 0) (omega arith))

pub slot_same : (a b : Slot ℕ) → a.key ≡ b.key → a.value ≡ b.value → a.left ≡ b.left → a.right ≡ b.right → a ≡ b
slot_same a b p q r s i = record { key = p i; value = q i; left = r i; right = s i }

-- The same words are the same key, and the same slot.
key_same : (wd : ℕ) (w w' : List ℕ) (p : ℕ) → ((i : ℕ) → p ≤ i → i < p + wd → get_or w' i 0 ≡ get_or w i 0) → key_in wd w' p ≡ key_in wd w p
key_same zero w w' p f = refl
key_same (suc zero) w w' p f = f p (omega arith) (omega arith)
key_same (suc (suc n)) w w' p f = omega (arith, f p (omega arith) (omega arith), f (p + 1) (omega arith) (omega arith))

-- The word i is one of the slot s.
pub record OfSlot (wd s i : ℕ) : Type 0 where
  pub from : 4 + (3 + wd) * s ≤ i
  pub to : i < 4 + (3 + wd) * s + (3 + wd)

pub words_same : {wd : ℕ} (w w' : List ℕ) (s : ℕ) → ((i : ℕ) → OfSlot wd s i → get_or w' i 0 ≡ get_or w i 0) → slots wd w' s ≡ slots wd w s
words_same {wd} w w' s f =
    slot_same _ _ (key_same wd w w' _ (λ i p q. f i (omega arith))) (f _ (omega arith)) (f _ (omega arith)) (f _ (omega arith))

-- A word of one slot is no word of another.
one_slot : {wd : ℕ} → Width wd → (s t i : ℕ) → OfSlot wd s i → OfSlot wd t i → s ≡ t
one_slot h =
    by_width h (λ wd. (s t i : ℕ) → OfSlot wd s i → OfSlot wd t i → s ≡ t) (λ s t i p q. omega arith) (λ s t i p q. omega arith)

set_elsewhere : {wd : ℕ} → Width wd → (w : List ℕ) (p v s : ℕ) → OfSlot wd s p → (i : ℕ) → (i ≡ s → ⊥) → slots wd (set w p v) i ≡ slots wd w i
set_elsewhere {wd} h w p v s o i n =
    words_same w (set w p v) i (λ d q. get_or-set_other w p d v 0 (λ e. n (one_slot h i s p (subst (λ (z : ℕ). OfSlot wd i z) e q) o)))

-- A slot with its word j changed, from the value on.
abbrev pub with_word : ℕ → ℕ → Slot ℕ → Slot ℕ
with_word zero v c = c
with_word (suc zero) v c = record { key = c.key; value = v; left = c.left; right = c.right }
with_word (suc (suc zero)) v c = record { key = c.key; value = c.value; left = v; right = c.right }
with_word (suc (suc (suc j))) v c = record { key = c.key; value = c.value; left = c.left; right = v }

-- The word j of the slot s becomes v, and nothing else changes.
pub record Put (j s v : ℕ) (m m' : ℕ → Slot ℕ) : Type 0 where
  pub here : m' s ≡ with_word j v (m s)
  pub elsewhere : (i : ℕ) → (i ≡ s → ⊥) → m' i ≡ m i

module _ {wd : ℕ} (w : List ℕ) (s v : ℕ) (inside : Inside wd w (suc s)) where
  hits : (j i : ℕ) → j < 4 → i ≡ (3 + wd) * suc s + j → get_or (set w ((3 + wd) * suc s + j) v) i 0 ≡ v
  hits j i h e = rw e (get_or-set_same w ((3 + wd) * suc s + j) v 0 (omega arith))

  misses : (j i : ℕ) → (i ≡ (3 + wd) * suc s + j → ⊥) → get_or (set w ((3 + wd) * suc s + j) v) i 0 ≡ get_or w i 0
  misses j i h = get_or-set_other w ((3 + wd) * suc s + j) i v 0 h

  key_stays : (j : ℕ) → 0 < j → key_in wd (set w ((3 + wd) * suc s + j) v) (4 + (3 + wd) * s) ≡ key_in wd w (4 + (3 + wd) * s)
  key_stays j p = key_same wd w _ _ (λ i b q. misses j i (omega (arith, inside.width)))

  put_here : (j : ℕ) → 0 < j → j < 4 → slots wd (set w ((3 + wd) * suc s + j) v) s ≡ with_word j v (slots wd w s)
  put_here zero p h = absurd (omega arith)
  put_here (suc zero) p h = slot_same _ _ (key_stays 1 p) (hits 1 _ h (omega arith)) (misses 1 _ (omega arith)) (misses 1 _ (omega arith))
  put_here (suc (suc zero)) p h = slot_same _ _ (key_stays 2 p) (misses 2 _ (omega arith)) (hits 2 _ h (omega arith)) (misses 2 _ (omega arith))
  put_here (suc (suc (suc zero))) p h = slot_same _ _ (key_stays 3 p) (misses 3 _ (omega arith)) (misses 3 _ (omega arith)) (hits 3 _ h (omega arith))
  put_here (suc (suc (suc (suc j)))) p h = absurd (omega arith)

  slot_put : (j : ℕ) → 0 < j → j < 4 → Put j s v (slots wd w) (slots wd (set w ((3 + wd) * suc s + j) v))
  slot_put j p h =
      record { here = put_here j p h; elsewhere = set_elsewhere inside.width w _ v s (omega (arith, inside.width)) }

with_off : (d : Side) (v : ℕ) (c : Slot ℕ) → with_word (off d) v c ≡ with_link d v c
with_off left v c = refl
with_off right v c = refl

off_pos : (d : Side) → 0 < off d
off_pos left = omega arith
off_pos right = omega arith

-- A store to the word j of the slot that the link x leads to.
pub put_at : {wd : ℕ} (w : List ℕ) {w' : List ℕ} {x s : ℕ} (j v : ℕ) → x ≡ suc s → Inside wd w x → 0 < j → j < 4 → w' ≡ set w ((3 + wd) * x + j) v
    → Put j s v (slots wd w) (slots wd w')
put_at {wd} w {w'} {x} {s} j v e b p h q =
    let q' : w' ≡ set w ((3 + wd) * suc s + j) v = cc in
    rw q' (slot_put w s v (rw e at b) j p h)

pub relinked_at : (d : Side) {wd : ℕ} (w : List ℕ) {w' : List ℕ} {x s : ℕ} (v : ℕ) → x ≡ suc s → Inside wd w x → w' ≡ set w ((3 + wd) * x + off d) v
    → Relinked d s v (slots wd w) (slots wd w')
relinked_at d {wd} w {w'} {x} {s} v e b q =
    let p = put_at w (off d) v e b (off_pos d) (off_low d) q in
    record { here = p.here ∙ with_off d v (slots wd w s); elsewhere = p.elsewhere }

-- The header and the length.
pub kept_refl : {w : List ℕ} → Kept w w
kept_refl = record { len = refl; header = λ i h. refl }

pub kept_trans : {u v w : List ℕ} → Kept u v → Kept v w → Kept u w
kept_trans p q = record { len = q.len ∙ p.len; header = λ i h. q.header i h ∙ p.header i h }

pub inside_len : {wd : ℕ} {w w' : List ℕ} {x : ℕ} → length w' ≡ length w → Inside wd w x → Inside wd w' x
inside_len e h = record { width = h.width; real = h.real; within = rw e h.within }

pub inside_kept : {wd : ℕ} {w w' : List ℕ} {x : ℕ} → Kept w w' → Inside wd w x → Inside wd w' x
inside_kept k h = inside_len k.len h

-- No slot's word is the header's.
kept_store : {w : List ℕ} (p v : ℕ) → 4 ≤ p → Kept w (set w p v)
kept_store {w} p v b = record { len = length-set w p v; header = λ i h. get_or-set_other w p i v 0 (omega arith) }

pub beyond : {wd x : ℕ} → Width wd → 0 < x → 4 ≤ (3 + wd) * x
beyond {x = zero} h p = absurd (omega arith)
beyond {x = suc s} h p = omega arith

pub kept_set : {wd : ℕ} {w w' : List ℕ} {x : ℕ} (j v : ℕ) → Inside wd w x → w' ≡ set w ((3 + wd) * x + j) v → Kept w w'
kept_set {wd} {w} {w'} {x} j v p q = rw q (kept_store ((3 + wd) * x + j) v (omega (arith, beyond p.width p.real)))

-- A key, stored.
rekeyed_two : (x k : ℕ) (w : List ℕ) → Inside 2 w x → Rekeyed 2 x k w (sets w ((3 + 2) * x + 1 - 2) (spelled 2 k))
rekeyed_two x k w h = record {
  kept = grind (arith, common_steps);
  here = λ s e. slot_same _ _ (grind (arith, common_steps)) (grind (arith, common_steps)) (grind (arith, common_steps)) (grind (arith, common_steps));
  elsewhere = grind (arith, common_steps);
}

pub rekeyed : {wd : ℕ} (x k : ℕ) (w : List ℕ) → Inside wd w x → Rekeyed wd x k w (sets w ((3 + wd) * x + 1 - wd) (spelled wd k))
rekeyed {wd = zero} x k w h = absurd (omega (arith, h.width))
rekeyed {wd = suc zero} x k w h = grind (arith, common_steps)
rekeyed {wd = suc (suc zero)} x k w h = rekeyed_two x k w h
rekeyed {wd = suc (suc (suc n))} x k w h = absurd (omega (arith, h.width))

-- A slot's words, stored one by one.
pub fills : {wd : ℕ} (x k v l r : ℕ) (w w₁ w₂ w₃ : List ℕ) {w₄ : List ℕ} → Inside wd w x
    → Rekeyed wd x k w w₁ → w₂ ≡ set w₁ ((3 + wd) * x + 1) v → w₃ ≡ set w₂ ((3 + wd) * x + 2) l → w₄ ≡ set w₃ ((3 + wd) * x + 3) r
    → Filled wd x (record { key = k; value = v; left = l; right = r }) w w₄
fills zero k v l r w w₁ w₂ w₃ b p₁ q₂ q₃ q₄ = absurd (omega (arith, b.real))
fills {wd} (suc t) k v l r w w₁ w₂ w₃ {w₄} b p₁ q₂ q₃ q₄ =
    let b₁ : Inside wd w₁ (suc t) = inside_kept p₁.kept b in
    let k₂ : Kept w₁ w₂ = kept_set 1 v b₁ q₂ in
    let b₂ : Inside wd w₂ (suc t) = inside_kept k₂ b₁ in
    let k₃ : Kept w₂ w₃ = kept_set 2 l b₂ q₃ in
    let b₃ : Inside wd w₃ (suc t) = inside_kept k₃ b₂ in
    let p₂ : Put 1 t v (slots wd w₁) (slots wd w₂) = put_at w₁ 1 v refl b₁ (omega arith) (omega arith) q₂ in
    let p₃ : Put 2 t l (slots wd w₂) (slots wd w₃) = put_at w₂ 2 l refl b₂ (omega arith) (omega arith) q₃ in
    let p₄ : Put 3 t r (slots wd w₃) (slots wd w₄) = put_at w₃ 3 r refl b₃ (omega arith) (omega arith) q₄ in
    let all : slots wd w₄ t ≡ record { key = k; value = v; left = l; right = r }
    = p₄.here ∙ ap (with_word 3 r) (p₃.here ∙ ap (with_word 2 l) (p₂.here ∙ ap (with_word 1 v) (p₁.here t refl))) in
    record {
      kept = kept_trans p₁.kept (kept_trans k₂ (kept_trans k₃ (kept_set 3 r b₃ q₄)));
      here = λ s e. (let e' : s ≡ t = omega arith in rw e' all);
      elsewhere = λ s n.
          (let d : s ≡ t → ⊥ = λ e. n (ap suc (sym e)) in
          p₄.elsewhere s d ∙ p₃.elsewhere s d ∙ p₂.elsewhere s d ∙ p₁.elsewhere s n);
    }
