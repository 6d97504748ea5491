-- What is asked of an edition, and that keys of one word and of two have it: an order that is total and transitive, and words that spell a
-- key.
use mathlib.Core.List.{List, ◌∷◌, ◌++◌}
use mathlib.Core.Path.{◌≡◌, refl, ◌∙◌, ap}
use Prim.Native.Nat.compare
use Prim.Native.Nat.{ℕ, zero, suc, ◌+◌, ◌*◌, ◌/◌, ◌%◌, ◌<◌, ◌≤◌}
use native.Mathlib.Numerals.{add-one}
use native.Mathlib.Omega.{arith}
use lib.ListN.{length, drop, get_or, get_or-append}
use lib.Seq.{drop-cons, get_or-append_seam, get_or-append-add}
use Rattle.rules.specs.Order.{Side, left, right, other, Order, equal, toward, by_number}
use Rattle.rules.specs.Edition.{Edition, word_values, key_in, edition, Width, Small, tags}

pub record Lawful {K : Type 0} (ed : Edition K) : Type 0 where
  pub same : (a b : K) → ed.order a b ≡ equal → a ≡ b
  pub flip : (s : Side) (a b : K) → ed.order a b ≡ toward s → ed.order b a ≡ toward (other s)
  pub chain : (s : Side) (a b c : K) → ed.order a b ≡ toward s → ed.order b c ≡ toward s → ed.order a c ≡ toward s
  pub spell_length : (k : K) → length (ed.spell k) ≡ ed.width
  pub respell : (w : List ℕ) → Small w → (i : ℕ) → i + ed.width ≤ length w → drop i w ≡ ed.spell (ed.key_at w i) ++ drop (i + ed.width) w
  pub reread : (a : List ℕ) (k : K) (b : List ℕ) → ed.key_at (a ++ (ed.spell k ++ b)) (length a) ≡ k
  pub ahead : (a b : List ℕ) (i : ℕ) → i + ed.width ≤ length a → ed.key_at (a ++ b) i ≡ ed.key_at a i

-- What an order says of two numbers.
abbrev pub Says : Order → ℕ → ℕ → Type 0
Says equal a b = a ≡ b
Says (toward left) a b = a < b
Says (toward right) a b = b < a

up : (o : Order) (a b : ℕ) → Says o a b → Says o (suc a) (suc b)
up equal a b h = omega arith
up (toward left) a b h = omega arith
up (toward right) a b h = omega arith

says : (a b : ℕ) → Says (by_number a b) a b
says zero zero = refl
says zero (suc b) = rw compare.zero-suc (omega arith)
says (suc a) zero = rw compare.suc-zero (omega arith)
says (suc a) (suc b) = rw compare.suc-suc (up (by_number a b) a b (says a b))

one_order : (o p : Order) (a b : ℕ) → Says o a b → Says p a b → o ≡ p
one_order equal equal a b h k = refl
one_order equal (toward left) a b h k = absurd (omega arith)
one_order equal (toward right) a b h k = absurd (omega arith)
one_order (toward left) equal a b h k = absurd (omega arith)
one_order (toward left) (toward left) a b h k = refl
one_order (toward left) (toward right) a b h k = absurd (omega arith)
one_order (toward right) equal a b h k = absurd (omega arith)
one_order (toward right) (toward left) a b h k = absurd (omega arith)
one_order (toward right) (toward right) a b h k = refl

-- The order of two numbers is what they say, and nothing else.
pub order_from : (o : Order) (a b : ℕ) → Says o a b → by_number a b ≡ o
order_from o a b h = one_order (by_number a b) o a b (says a b) h

pub order_says : (o : Order) (a b : ℕ) → by_number a b ≡ o → Says o a b
order_says o a b e = rw e at (says a b)

flipped : (s : Side) (a b : ℕ) → Says (toward s) a b → Says (toward (other s)) b a
flipped left a b h = h
flipped right a b h = h

chained : (s : Side) (a b c : ℕ) → Says (toward s) a b → Says (toward s) b c → Says (toward s) a c
chained left a b c h k = omega arith
chained right a b c h k = omega arith

-- What holds for keys of one word and of two.
pub by_width {ℓ} : {wd : ℕ} → Width wd → (P : ℕ → Type ℓ) → P 1 → P 2 → P wd
by_width {wd = zero} h P p q = absurd (omega arith)
by_width {wd = suc zero} h P p q = p
by_width {wd = suc (suc zero)} h P p q = q
by_width {wd = suc (suc (suc n))} h P p q = absurd (omega arith)

by_words : (wd : ℕ) → ((k : ℕ) → length ((edition wd).spell k) ≡ wd)
    → ((w : List ℕ) → Small w → (i : ℕ) → i + wd ≤ length w → drop i w ≡ (edition wd).spell (key_in wd w i) ++ drop (i + wd) w)
    → ((a : List ℕ) (k : ℕ) (b : List ℕ) → key_in wd (a ++ ((edition wd).spell k ++ b)) (length a) ≡ k)
    → ((a b : List ℕ) (i : ℕ) → i + wd ≤ length a → key_in wd (a ++ b) i ≡ key_in wd a i)
    → Lawful (edition wd)
by_words wd p q r t =
    record {
      same = λ a b e. order_says equal a b e;
      flip = λ s a b e. order_from (toward (other s)) b a (flipped s a b (order_says (toward s) a b e));
      chain = λ s a b c e f.
          order_from (toward s) a c (chained s a b c (order_says (toward s) a b e) (order_says (toward s) b c f));
      spell_length = p;
      respell = q;
      reread = r;
      ahead = t;
    }

pub tags_lawful : Lawful tags
tags_lawful =
    by_words 1 (λ k. refl) (λ w m i h. rw (add-one) (drop-cons w i 0 (omega arith))) (λ a k b. get_or-append_seam a k b 0)
    (λ a b i h. get_or-append a b 0 i (omega arith))

pub two_words_lawful : Lawful (edition 2)
two_words_lawful =
    by_words 2 (λ k. refl)
    (λ w m i h.
    let high : (word_values * get_or w i 0 + get_or w (i + 1) 0) / word_values ≡ get_or w i 0 = omega (arith, m (i + 1)) in
    let low : (word_values * get_or w i 0 + get_or w (i + 1) 0) % word_values ≡ get_or w (i + 1) 0 = omega (arith, m (i + 1)) in
    let one : i + 1 ≡ suc i = omega arith in
    let two : i + 2 ≡ suc (suc i) = omega arith in
    let rest : drop (suc i) w ≡ get_or w (i + 1) 0 ∷ drop (i + 2) w = rw (one, two) (drop-cons w (suc i) 0 (omega arith)) in
    rw (high, low) (drop-cons w i 0 (omega arith) ∙ ap (λ (l : List ℕ). get_or w i 0 ∷ l) rest))
    (λ a k b.
    let high : get_or (a ++ (k / word_values ∷ k % word_values ∷ b)) (length a) 0 ≡ k / word_values = get_or-append_seam a _ _ 0 in
    let low : get_or (a ++ (k / word_values ∷ k % word_values ∷ b)) (length a + 1) 0 ≡ k % word_values = get_or-append-add a _ 1 0 in
    omega arith)
    (λ a b i h. omega (arith, get_or-append a b 0 i (omega arith), get_or-append a b 0 (i + 1) (omega arith)))

pub edition_lawful : {wd : ℕ} → Width wd → Lawful (edition wd)
edition_lawful h = by_width h (λ wd. Lawful (edition wd)) tags_lawful two_words_lawful

-- A key compares equal with itself.
module _ {K : Type 0} (ed : Edition K) (laws : Lawful ed) where
  both_sides : (s : Side) → ◌≡◌ {A = Order} (toward s) (toward (other s)) → ⊥
  both_sides left e = let z : ◌≡◌ {A = ℕ} 0 1 = cc in omega arith
  both_sides right e = let z : ◌≡◌ {A = ℕ} 0 1 = cc in omega arith

  pub self : (a : K) → ed.order a a ≡ equal
  self a = by (ed.order a a) refl
    where
      by : (o : Order) → ed.order a a ≡ o → ed.order a a ≡ equal
      by equal e = e
      by (toward s) e = let f : ed.order a a ≡ toward (other s) = laws.flip s a a e in absurd (both_sides s (cc))
