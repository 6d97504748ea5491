-- The words of a line, read one after the other, are those of its digits taken together.
-- Assumes nothing.
use mathlib.Core.Path.{◌≡◌, refl, sym, ◌∙◌, ap}
use mathlib.Core.Bool.{Bool, true, false}
use mathlib.Core.List.{List, [], ◌∷◌, ◌++◌}
use mathlib.Core.Option.{Option, none as nil, some}
use Prim.Native.Nat.{ℕ, zero, suc, ◌+◌, ◌*◌, ◌≤◌, ◌<◌}
use native.Mathlib.Omega.{arith}
use lib.Dec.{eqb}
use lib.ListN.{length, get_or, set, take, drop, length-set, length-take, length-drop, take-append-drop}
use lib.Seq.{take_at, drop_at, drop-drop}
use borrow.Author.Tests.{eq-eqb, ne_eqb}
use Rattle.std.proofs.lemmas.Grind.{common_steps}
use Rattle.std.specs.Prelude.{Option as Perhaps, Some, None}
use Rattle.rules.specs.Order.{choose}
use Rattle.rules.specs.Edition.{edition, key_in, Width}
use Rattle.rules.specs.Lines.{digit, digits, and_then, words_from, command_of, line_command}
use Rattle.rules.proofs.Order.{by_width}
use Rattle.digits.specs.Read.{word_from}
use Rattle.line.specs.Read.{word_at, key_of_two, key_from, words_of, line_words, line_of, worded, meant, Reads}
use Rattle.line.specs.declared.request.Request.{Request}

-- The digits of two parts, if both hold nothing else.
abbrev joined : Option (List ℕ) → Option (List ℕ) → Option (List ℕ)
joined nil es = nil
joined (some ds) nil = nil
joined (some ds) (some es) = some (ds ++ es)

joined_first : (d : Option ℕ) (ds es : Option (List ℕ)) → and_then d (joined ds es) ≡ joined (and_then d ds) es
joined_first nil ds es = refl
joined_first (some d) nil es = refl
joined_first (some d) (some ds) nil = refl
joined_first (some d) (some ds) (some es) = refl

nothing_first : (es : Option (List ℕ)) → es ≡ joined (some []) es
nothing_first nil = refl
nothing_first (some es) = refl

digits_append : (l m : List ℕ) → digits (l ++ m) ≡ joined (digits l) (digits m)
unfolding digits
digits_append [] m = nothing_first (digits m)
digits_append (b ∷ l) m = ap (and_then (digit b)) (digits_append l m) ∙ joined_first (digit b) (digits l) (digits m)

-- There are as many digits as bytes.
Sized : ℕ → Option (List ℕ) → Type 0
Sized n nil = Unit
Sized n (some ds) = length ds ≡ n

sized_more : (n : ℕ) (d : Option ℕ) (ds : Option (List ℕ)) → Sized n ds → Sized (suc n) (and_then d ds)
unfolding Sized
sized_more n nil ds s = tt
sized_more n (some d) nil s = tt
sized_more n (some d) (some ds) s = ap suc s

digits_sized : (l : List ℕ) → Sized (length l) (digits l)
unfolding digits Sized
digits_sized [] = refl
digits_sized (b ∷ l) = sized_more (length l) (digit b) (digits l) (digits_sized l)

-- A word before others, if all of them were read.
abbrev before : Perhaps ℕ → Option (List ℕ) → Option (List ℕ)
before None ws = nil
before (Some w) nil = nil
before (Some w) (some ws) = some (w ∷ ws)

first_word : (n : ℕ) (ds es : Option (List ℕ)) → Sized 8 ds
    → words_of (suc n) (joined ds es) ≡ before (word_from 0 ds) (words_of n es)
unfolding Sized words_from
first_word n nil es s = refl
first_word n (some ds) nil s = refl
first_word n (some ds) (some es) s = rw (take_at ds es 8 s, drop_at ds es 8 s)

-- The words from a place on: the first, and those from eight bytes further on.
next_word : (n at : ℕ) (l : List ℕ) → at + 8 ≤ length l
    → words_of (suc n) (digits (drop at l)) ≡ before (word_at l at) (words_of n (digits (drop (at + 8) l)))
next_word n at l long =
    let m : List ℕ = drop at l in
    let s : Sized (length (take 8 m)) (digits (take 8 m)) = digits_sized (take 8 m) in
    let e : length (take 8 m) ≡ 8 = simp (length-take, length-drop) (omega arith) in
    ap (λ (k : List ℕ). words_of (suc n) (digits k)) (sym (take-append-drop 8 m))
    ∙ ap (words_of (suc n)) (digits_append (take 8 m) (drop 8 m))
    ∙ first_word n (digits (take 8 m)) (digits (drop 8 m)) (rw e at s)
    ∙ ap (λ (k : List ℕ). before (word_at l at) (words_of n (digits k))) (drop-drop 8 at l)

-- So many words, one by one, from a place on.
abbrev one_by_one : List ℕ → ℕ → ℕ → Option (List ℕ)
one_by_one l at zero = some []
one_by_one l at (suc n) = before (word_at l at) (one_by_one l (at + 8) n)

none_left : (l : List ℕ) → length l ≡ 0 → words_of 0 (digits l) ≡ some []
unfolding digits words_from
none_left [] e = refl
none_left (b ∷ l) e = absurd (omega arith)

read_one_by_one : (n at : ℕ) (l : List ℕ) → at + 8 * n ≡ length l → words_of n (digits (drop at l)) ≡ one_by_one l at n
read_one_by_one zero at l e = none_left (drop at l) (simp length-drop (omega arith))
read_one_by_one (suc n) at l e =
    next_word n at l (omega arith) ∙ ap (before (word_at l at)) (read_one_by_one n (at + 8) l (omega arith))

-- Number, key and value, if all were read.
abbrev pub told : Perhaps ℕ → Perhaps ℕ → Perhaps ℕ → Perhaps (Request ℕ)
told None k v = None
told (Some n) None v = None
told (Some n) (Some k) None = None
told (Some n) (Some k) (Some v) = Some (record { number = n; key = k; value = v })

told_one : (u v w : Perhaps ℕ) → line_of 1 (before u (before v (before w (some [])))) ≡ told u v w
told_one None v w = refl
told_one (Some u) None w = refl
told_one (Some u) (Some v) None = refl
told_one (Some u) (Some v) (Some w) = refl

told_two : (u v w x : Perhaps ℕ) → line_of 2 (before u (before v (before w (before x (some []))))) ≡ told u (key_of_two v w) x
told_two None v w x = refl
told_two (Some u) None w x = refl
told_two (Some u) (Some v) None x = refl
told_two (Some u) (Some v) (Some w) None = refl
told_two (Some u) (Some v) (Some w) (Some x) = refl

no_low : (v : Perhaps ℕ) → key_of_two v None ≡ None
no_low None = refl
no_low (Some v) = refl

missing_one : (l : List ℕ) (i : ℕ) → i < 1 → word_at l (8 + 8 * i) ≡ None → word_at l 8 ≡ None
missing_one l zero b e = e
missing_one l (suc i) b e = absurd (omega arith)

missing_two : (l : List ℕ) (i : ℕ) → i < 2 → word_at l (8 + 8 * i) ≡ None → key_of_two (word_at l 8) (word_at l 16) ≡ None
missing_two l zero b e = rw e
missing_two l (suc zero) b e = rw e (no_low (word_at l 8))
missing_two l (suc (suc i)) b e = absurd (omega arith)

-- The first i words of the key are read, of at most two.
pub record Far (l ws : List ℕ) (i : ℕ) : Type 0 where
  pub room : length ws ≡ 2
  pub word : (j : ℕ) → j < i → word_at l (8 + 8 * j) ≡ Some (get_or ws j 0)

pub not_begun : (l : List ℕ) → Far l (0 ∷ 0 ∷ []) 0
not_begun l = record { room = refl; word = λ j b. absurd (omega arith) }

pub farther : {wd i w : ℕ} → Width wd → (l ws : List ℕ) → i < wd → word_at l (8 + 8 * i) ≡ Some w → Far l ws i
    → Far l (set ws i w) (i + 1)
farther h l ws b e f =
    record { room = length-set ws _ _ ∙ f.room; word = λ j c. grind (arith, common_steps, f.word j) }

module _ {wd : ℕ} (h : Width wd) (l : List ℕ) where
  -- The key, once all of its words are read; and where one of them is missing.
  pub key_read : (ws : List ℕ) → Far l ws wd → Some (key_in wd ws 0) ≡ key_from wd l
  key_read ws =
      by_width h (λ wd. Far l ws wd → Some (key_in wd ws 0) ≡ key_from wd l)
      (λ f. sym (f.word 0 (omega arith))) (λ f. rw (f.word 0 (omega arith), f.word 1 (omega arith)))

  pub no_key : (i : ℕ) → i < wd → word_at l (8 + 8 * i) ≡ None → None ≡ key_from wd l
  no_key i b e =
      sym (by_width h (λ wd. i < wd → word_at l (8 + 8 * i) ≡ None → key_from wd l ≡ None) (missing_one l i) (missing_two l i) b e)

  -- A line of as many bytes as a command has says what its words say, and any other says nothing.
  all_read : length l ≡ 8 * (2 + wd) → line_of wd (one_by_one l 0 (2 + wd)) ≡ told (word_at l 0) (key_from wd l) (word_at l (8 + 8 * wd))
  all_read e =
      by_width h (λ wd. line_of wd (one_by_one l 0 (2 + wd)) ≡ told (word_at l 0) (key_from wd l) (word_at l (8 + 8 * wd)))
      (told_one (word_at l 0) (word_at l 8) (word_at l 16))
      (told_two (word_at l 0) (word_at l 8) (word_at l 16) (word_at l 24))

  long_line : length l ≡ 8 * (2 + wd) → line_of wd (line_words wd l) ≡ told (word_at l 0) (key_from wd l) (word_at l (8 + 8 * wd))
  unfolding line_words
  long_line e =
      rw (eq-eqb (length l) (8 * (2 + wd)) e) (ap (line_of wd) (read_one_by_one (2 + wd) 0 l (omega arith)) ∙ all_read e)

  other_line : (length l ≡ 8 * (2 + wd) → ⊥) → line_of wd (line_words wd l) ≡ None
  unfolding line_words
  other_line n = rw (ne_eqb (length l) (8 * (2 + wd)) n)

  meant_at : (fits : Bool) (ds : Option (List ℕ))
      → meant (λ k. k) (line_of wd (choose fits (words_of (2 + wd) ds) nil)) ≡ choose fits (command_of (edition wd) ds) nil
  meant_at true nil = refl
  meant_at true (some ds) = refl
  meant_at false ds = refl

  module _ {K : Type 0} (number : K → ℕ) where
    meant_worded : (r : Perhaps (Request K)) → meant number r ≡ meant (λ k. k) (worded number r)
    meant_worded None = refl
    meant_worded (Some r) = refl

    -- The words that were read determine the command that the rules give the line.
    read : (r : Perhaps (Request K)) → worded number r ≡ line_of wd (line_words wd l) → Reads number wd l r
    unfolding line_words line_command
    read r e =
        record {
          words = e;
          command = meant_worded r ∙ ap (meant (λ k. k)) e ∙ meant_at (eqb (length l) (8 * (2 + wd))) (digits l);
        }

    -- What is returned of a line that is too short or too long; and of one that is neither, from its words.
    pub unsaid : (length l ≡ 8 * (2 + wd) → ⊥) → Reads number wd l None
    unsaid n = read None (sym (other_line n))

    pub said : (r : Perhaps (Request K)) → length l ≡ 8 * (2 + wd)
        → worded number r ≡ told (word_at l 0) (key_from wd l) (word_at l (8 + 8 * wd)) → Reads number wd l r
    said r e t = read r (t ∙ sym (long_line e))

-- What the proof of the loop that reads a key needs.
pub ruleset key_reading = (not_begun, key_read, no_key)
