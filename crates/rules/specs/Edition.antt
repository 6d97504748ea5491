-- What an edition fixes: its keys, their order, and the words that they take. Everything else is said once, for every edition.
use Rattle.std.specs.Prelude.{List, [], ◌∷◌, ◌≡◌, ℕ, zero, suc, ◌+◌, ◌*◌, ◌/◌, ◌%◌, ◌≤◌, ◌<◌, get_or}
use Rattle.rules.specs.Order.{Order, by_number}

pub record Edition (K : Type 0) : Type 0 where
  pub order : K → K → Order
  -- The key of an answer without an entry, and of a free slot.
  pub zero_key : K
  -- How many words a key takes; its words; and the key whose words begin at a place in a list.
  pub width : ℕ
  pub spell : K → List ℕ
  pub key_at : List ℕ → ℕ → K

-- "A word is an unsigned number of 32 bits. M is the largest one, 4294967295." Here a word is any number; that it is below 2^32 comes from
-- `u32` in the contracts.
abbrev pub M : ℕ
M = 4294967295

-- "N, the number of slots, from 1 to 4,095".
abbrev pub most_slots : ℕ
most_slots = 4095

-- How many numbers a word can say; and words that are below that, as the words of every `u32` slice are. Two words below it can be read
-- back from the key that they spell.
abbrev pub word_values : ℕ
word_values = 4294967296

abbrev pub Small : List ℕ → Type 0
Small w = (i : ℕ) → get_or w i 0 < word_values

-- "A key is one word"; or "a key is two words, the high one first".
abbrev pub spelled : ℕ → ℕ → List ℕ
spelled zero k = []
spelled (suc zero) k = k ∷ []
spelled (suc (suc n)) k = k / word_values ∷ k % word_values ∷ []

abbrev pub key_in : ℕ → List ℕ → ℕ → ℕ
key_in zero w i = 0
key_in (suc zero) w i = get_or w i 0
key_in (suc (suc n)) w i = word_values * get_or w i 0 + get_or w (i + 1) 0

-- "There are two editions": the width of a key is one word or two. "Keys are compared as numbers" in both.
abbrev pub edition : ℕ → Edition ℕ
edition wd = record { order = by_number; zero_key = 0; width = wd; spell = spelled wd; key_at = key_in wd }

pub record Width (wd : ℕ) : Type 0 where
  pub one : 1 ≤ wd
  pub two : wd ≤ 2

-- The key k can be spelled in wd words. (Every key that the code has can be spelled in two.)
abbrev pub Spells : ℕ → ℕ → Type 0
Spells wd k = wd ≡ 1 → k < word_values

-- "The first is for tags".
abbrev pub tags : Edition ℕ
tags = edition 1

-- "The second is for tags with a private creator".
abbrev pub tags64 : Edition ℕ
tags64 = edition 2
