-- What a digit's code tells of it, and what the digits of a part of a line tell of its word.
-- Assumes nothing.
use mathlib.Core.Path.{◌≡◌, refl, sym, ◌∙◌, ap}
use mathlib.Core.Bool.{Bool, true, false, ◌&&◌}
use mathlib.Core.List.{List, ◌∷◌}
use mathlib.Core.Option.{Option, none as nil, some}
use Rattle.std.specs.Prelude.{Option as Perhaps, Some, None}
use Prim.Native.Nat.{ℕ, suc, ◌+◌, ◌-◌, ◌*◌, ◌^◌, ◌<◌, ◌≤◌}
use native.Mathlib.Nat.{pow-succ', pow-le-pow_right}
use native.Mathlib.Numerals.{add-one}
use native.Mathlib.Omega.{arith}
use lib.Dec.{leb, lit<, lit≤}
use lib.ListN.{length, get_or, take, drop}
use lib.Seq.{drop-cons}
use borrow.Author.Tests.{leb-true}
use Rattle.rules.specs.Order.{choose}
use Rattle.rules.specs.Lines.{digit, digits, and_then, number_from}
use Rattle.digits.specs.Read.{coded, word_from}

-- A digit, if there is one, is below 16.
abbrev pub Small : Option ℕ → Type 0
Small nil = Unit
Small (some d) = d < 16

right_holds : (p q : Bool) → (p && q) ≡ true → q ≡ true
right_holds true q e = e
right_holds false q e = cc

chosen_small : (p : Bool) (d : ℕ) (o : Option ℕ) → (p ≡ true → d < 16) → Small o → Small (choose p (some d) o)
chosen_small true d o h s = h refl
chosen_small false d o h s = s

pub digit_small : (b : ℕ) → Small (digit b)
unfolding digit
digit_small b =
    chosen_small (leb 48 b && leb b 57) (b - 48) (choose (leb 97 b && leb b 102) (some (b - 87)) nil)
    (λ e. omega (arith, leb-true b 57 (right_holds (leb 48 b) (leb b 57) e)))
    (chosen_small (leb 97 b && leb b 102) (b - 87) nil
    (λ e. omega (arith, leb-true b 102 (right_holds (leb 97 b) (leb b 102) e)))
    tt)

-- The code 16 stands for no digit, and every other code for itself.
pub none_coded : (o : Option ℕ) → Small o → coded o ≡ 16 → o ≡ nil
none_coded nil s e = refl
none_coded (some d) s e = absurd (omega arith)

pub some_coded : (o : Option ℕ) → Small o → (coded o ≡ 16 → ⊥) → o ≡ some (coded o)
some_coded nil s h = absurd (h refl)
some_coded (some d) s h = refl

coded_least : (o : Option ℕ) → Small o → coded o ≤ 16
coded_least nil s = lit≤ tt
coded_least (some d) s = omega arith

pub coded_small : (b : ℕ) → coded (digit b) ≤ 16
coded_small b = coded_least (digit b) (digit_small b)

-- The word of the bytes from the place i on, after the number n.
abbrev pub word_after : List ℕ → ℕ → ℕ → ℕ → Perhaps ℕ
word_after l at n i = word_from n (digits (take (8 - i) (drop (at + i) l)))

-- A part of a line begins with its first byte.
pub unread : (l : List ℕ) (at i : ℕ) → at + 8 ≤ length l → i < 8
    → take (8 - i) (drop (at + i) l) ≡ get_or l (at + i) 0 ∷ take (8 - (i + 1)) (drop (at + (i + 1)) l)
unread l at i fits h =
    let e : 8 - i ≡ suc (8 - (i + 1)) = omega arith in
    let e' : at + (i + 1) ≡ suc (at + i) = omega arith in
    rw (e, e') (ap (take (suc (8 - (i + 1)))) (drop-cons l (at + i) 0 (omega arith)))

taken : (n d : ℕ) (o : Option (List ℕ)) → word_from n (and_then (some d) o) ≡ word_from (16 * n + d) o
unfolding number_from
taken n d nil = refl
taken n d (some ds) = refl

-- A byte that is no digit spoils the word.
spoilt : (n b : ℕ) (l : List ℕ) → digit b ≡ nil → word_from n (digits (b ∷ l)) ≡ None
unfolding digits
spoilt n b l e = rw e

more : (n b d : ℕ) (l : List ℕ) → digit b ≡ some d → word_from n (digits (b ∷ l)) ≡ word_from (16 * n + d) (digits l)
unfolding digits
more n b d l e = rw e (taken n d (digits l))

-- A turn of the loop that reads a word, by the code d of the byte at the place i.
module _ (l : List ℕ) (at n i d : ℕ) (fits : at + 8 ≤ length l) (h : i < 8) (e : d ≡ coded (digit (get_or l (at + i) 0))) where
  pub word_spoilt : d ≡ 16 → word_after l at n i ≡ None
  word_spoilt s =
      let b = get_or l (at + i) 0 in
      rw (unread l at i fits h) (spoilt n b _ (none_coded (digit b) (digit_small b) (sym e ∙ s)))

  pub word_taken : (d ≡ 16 → ⊥) → word_after l at (16 * n + d) (i + 1) ≡ word_after l at n i
  word_taken s =
      let b = get_or l (at + i) 0 in
      let is : digit b ≡ some d = rw e (some_coded (digit b) (digit_small b) (λ e'. s (e ∙ e'))) in
      rw (unread l at i fits h) (sym (more n _ d _ is))

-- Where no byte is left the number is the word.
pub word_read : (l : List ℕ) (at n i : ℕ) → i ≡ 8 → word_after l at n i ≡ Some n
unfolding digits number_from
word_read l at n i e = rw e

-- What a number of so many digits is below: sixteen times as much for a digit more, and for at most eight a word.
pub wider : (i : ℕ) → 16 ^ (i + 1) ≡ 16 * 16 ^ i
wider i = rw (add-one, pow-succ') (omega arith)

pub within : (i : ℕ) → i < 8 → 16 ^ i ≤ 268435456
within i h = pow-le-pow_right {n = 16} (lit< tt) {i = i} {j = 7} (omega arith)

-- What the proof of the reading loop needs.
pub ruleset reading = (coded_small, word_spoilt, word_taken, word_read, wider, within)
