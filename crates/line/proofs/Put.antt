-- Words that are written one after the other, as runs of stores into a list.
-- Assumes nothing.
use mathlib.Core.List.{List, [], ◌∷◌, ◌++◌, append-nil, append_assoc}
use mathlib.Core.Path.{◌≡◌, refl, sym, ◌∙◌, ap}
use Prim.Native.Nat.{ℕ, ◌+◌, ◌*◌, ◌<◌}
use native.Mathlib.Numerals.{add-one}
use native.Mathlib.Omega.{arith}
use lib.ListN.{length, get_or, set, take, drop, length-append, length-take, drop_of_length-le}
use lib.Seq.{sets, sets-eq, take-suc}
use Rattle.rules.specs.Edition.{edition, Width}
use Rattle.rules.specs.Lines.{spelled, all_spelled, newline}
use Rattle.rules.proofs.Order.{by_width, edition_lawful}
use Rattle.digits.proofs.Spelled.{sets_append, spelled_length}
use Rattle.line.specs.Write.{line_of_words}

pub all_spelled_length : (ws : List ℕ) → length (all_spelled ws) ≡ 8 * length ws
unfolding all_spelled
all_spelled_length [] = refl
all_spelled_length (w ∷ ws) = rw (length-append, spelled_length, all_spelled_length ws) (omega arith)

all_spelled_append : (us vs : List ℕ) → all_spelled (us ++ vs) ≡ all_spelled us ++ all_spelled vs
unfolding all_spelled
all_spelled_append [] vs = refl
all_spelled_append (u ∷ us) vs =
    ap (◌++◌ (spelled 8 u)) (all_spelled_append us vs) ∙ sym (append_assoc (spelled 8 u) (all_spelled us) (all_spelled vs))

-- A word alone.
alone : (w : ℕ) → spelled 8 w ≡ all_spelled (w ∷ [])
unfolding all_spelled
alone w = sym (append-nil (spelled 8 w))

-- Words behind words.
words_behind : (l : List ℕ) (at : ℕ) (us vs : List ℕ) (to : ℕ) → to ≡ at + 8 * length us
    → sets (sets l at (all_spelled us)) to (all_spelled vs) ≡ sets l at (all_spelled (us ++ vs))
words_behind l at us vs to e =
    let place : to ≡ at + length (all_spelled us) = omega (arith, all_spelled_length us) in
    rw (place, all_spelled_append us vs, sets_append (all_spelled us) (all_spelled vs) l at)

-- No word of a list.
pub none_put : (l : List ℕ) (at : ℕ) → sets l at (all_spelled []) ≡ l
unfolding all_spelled
none_put l at = refl

-- One word more of a list, behind those before it.
pub word_put : (l ws : List ℕ) (at i : ℕ) → i < length ws
    → sets (sets l at (all_spelled (take i ws))) (at + 8 * i) (spelled 8 (get_or ws i 0)) ≡ sets l at (all_spelled (take (i + 1) ws))
word_put l ws at i h =
    rw (alone (get_or ws i 0), add-one, take-suc ws i 0 h)
    (words_behind l at (take i ws) (get_or ws i 0 ∷ []) (at + 8 * i) (omega (arith, length-take i ws)))

-- A key's words, where it stands in two.
pub key_words : {wd : ℕ} → Width wd → (k : ℕ) → take wd (sets (0 ∷ 0 ∷ []) 0 ((edition wd).spell k)) ≡ (edition wd).spell k
key_words h k = by_width h (λ wd. take wd (sets (0 ∷ 0 ∷ []) 0 ((edition wd).spell k)) ≡ (edition wd).spell k) refl refl

-- What the proof of the loop that writes a key needs.
pub ruleset key_writing = (none_put, word_put, key_words)

-- The words of an answer, one after the other, and the newline: a line.
pub line_put : {wd : ℕ} → Width wd → (l : List ℕ) (at c k v n : ℕ)
    → let after = at + 8 + 8 * wd in
    let keyed = sets (sets l at (spelled 8 c)) (at + 8) (all_spelled ((edition wd).spell k)) in
    set (sets (sets keyed after (spelled 8 v)) (after + 8) (spelled 8 n)) (after + 16) newline ≡ sets l at (line_of_words wd c k v n)
line_put {wd} h l at c k v n =
    let s : List ℕ = (edition wd).spell k in
    let long : length s ≡ wd = (edition_lawful h).spell_length k in
    let one : sets (sets l at (spelled 8 c)) (at + 8) (all_spelled s) ≡ sets l at (all_spelled (c ∷ s)) =
    rw (alone c) (words_behind l at (c ∷ []) s (at + 8) (omega arith)) in
    let two : sets (sets l at (all_spelled (c ∷ s))) (at + 8 + 8 * wd) (spelled 8 v) ≡ sets l at (all_spelled (c ∷ (s ++ (v ∷ [])))) =
    rw (alone v) (words_behind l at (c ∷ s) (v ∷ []) (at + 8 + 8 * wd) (omega arith)) in
    let three : sets (sets l at (all_spelled (c ∷ (s ++ (v ∷ []))))) (at + 8 + 8 * wd + 8) (spelled 8 n)
    ≡ sets l at (all_spelled (c ∷ ((s ++ (v ∷ [])) ++ (n ∷ [])))) =
    rw (alone n)
    (words_behind l at (c ∷ (s ++ (v ∷ []))) (n ∷ []) (at + 8 + 8 * wd + 8) (omega (arith, length-append s (v ∷ [])))) in
    let all : List ℕ = all_spelled (c ∷ (s ++ (v ∷ n ∷ []))) in
    let same : (s ++ (v ∷ [])) ++ (n ∷ []) ≡ s ++ (v ∷ n ∷ []) = append_assoc s (v ∷ []) (n ∷ []) in
    let end : at + 8 + 8 * wd + 16 ≡ at + length all =
    omega (arith, all_spelled_length (c ∷ (s ++ (v ∷ n ∷ []))), length-append s (v ∷ n ∷ [])) in
    rw (one, two, three, same, end) (sym (sets_append all (newline ∷ []) l at))

pub line_length : {wd : ℕ} → Width wd → (c k v n : ℕ) → length (line_of_words wd c k v n) ≡ 8 * (3 + wd) + 1
line_length {wd} h c k v n =
    simp (length-append, all_spelled_length)
    (omega (arith, length-append ((edition wd).spell k) (v ∷ n ∷ []), (edition_lawful h).spell_length k))

-- A line that is written over all of the bytes is all that stands there.
pub nothing_else : (l ws : List ℕ) → length l ≡ 8 * length ws + 1
    → sets l 0 (all_spelled ws ++ (newline ∷ [])) ≡ all_spelled ws ++ (newline ∷ [])
nothing_else l ws e =
    let all : List ℕ = all_spelled ws ++ (newline ∷ []) in
    let long : length all ≡ length l = simp (length-append, all_spelled_length) (omega arith) in
    let none : drop (0 + length all) l ≡ [] = drop_of_length-le l {i = 0 + length all} (omega arith) in
    sets-eq all l 0 (omega arith) ∙ rw none (append-nil all)
