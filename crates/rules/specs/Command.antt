-- Commands, answers and the two tables of codes.
use Rattle.std.specs.Prelude.{List, [], ◌∷◌, ◌++◌, ℕ, ◌+◌, get_or}
use Rattle.rules.specs.Edition.{Edition}

pub data Command (K : Type 0) : Type 0 where
  get next prev remove : K → Command K
  write insert : K → ℕ → Command K
  min max take_first take_last clear len unknown : Command K

module _ {K : Type 0} where
  -- The table of the commands, from number 0 on. The Rust's `contains` and `find_key` are get, and its `is_empty` is length 0.
  abbrev pub numbered : K → ℕ → List (Command K)
  numbered k v =
      unknown
      ∷ get k
      ∷ write k v
      ∷ next k
      ∷ prev k
      ∷ insert k v
      ∷ remove k
      ∷ min
      ∷ max
      ∷ take_first
      ∷ take_last
      ∷ clear
      ∷ len
      ∷ []

  -- "A word that it has no use for is ignored." UNKNOWN: "the number is 0 or above 12".
  abbrev pub command : ℕ → K → ℕ → Command K
  command n k v = get_or (numbered k v) n unknown

-- The codes: 0 to 7 of answers, 10 to 14 with which whole calls refuse, and 15 the line program's.
pub data Code : Type 0 where
  FOUND ABSENT NEW REPLACED REMOVED FULL COUNT UNKNOWN : Code
  SIZE SHORT DAMAGED RAGGED NO_ROOM BAD_LINE : Code

abbrev pub code_number : Code → ℕ
code_number FOUND = 0
code_number ABSENT = 1
code_number NEW = 2
code_number REPLACED = 3
code_number REMOVED = 4
code_number FULL = 5
code_number COUNT = 6
code_number UNKNOWN = 7
code_number SIZE = 10
code_number SHORT = 11
code_number DAMAGED = 12
code_number RAGGED = 13
code_number NO_ROOM = 14
code_number BAD_LINE = 15

-- "A making or a run returns 0 where it is accepted, and the code where it is refused."
abbrev pub accepted : ℕ
accepted = 0

-- What an answer says besides its comparisons.
pub record Reply (K : Type 0) : Type 0 where
  pub code : Code
  pub key : K
  pub value : ℕ

-- "An answer has four words: a code, a key, a value and the count."
pub record Answer (K : Type 0) : Type 0 where
  pub code : Code
  pub key : K
  pub value : ℕ
  pub count : ℕ

abbrev pub said : {K : Type 0} → Answer K → Reply K
said a = record { code = a.code; key = a.key; value = a.value }

module _ {K : Type 0} (ed : Edition K) where
  -- An answer with a key and a value, and one with zeros for them.
  abbrev pub telling : Code → K → ℕ → ℕ → Answer K
  telling c k v n = record { code = c; key = k; value = v; count = n }

  abbrev pub bare : Code → ℕ → Answer K
  bare c n = telling c ed.zero_key 0 n

  abbrev pub answer_words : Answer K → List ℕ
  answer_words a = code_number a.code ∷ (ed.spell a.key ++ (a.value ∷ a.count ∷ []))

  -- The words of a command and of an answer.
  abbrev pub command_size : ℕ
  command_size = 2 + ed.width

  abbrev pub answer_size : ℕ
  answer_size = 3 + ed.width

  -- The command that a list of words begins with: "its number, a key and a value".
  abbrev pub command_at : List ℕ → Command K
  command_at w = command (get_or w 0 0) (ed.key_at w 1) (get_or w (1 + ed.width) 0)
