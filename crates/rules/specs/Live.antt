-- "The live entries": which keys are live with which value, and the answers that follow from that, said of "a list of pairs, key and value,
-- ascending by key". "No tree, link, slot or splay takes part in saying what it is."
use Rattle.std.specs.Prelude.{Bool, true, false, List, [], ◌∷◌, ◌≡◌, ℕ, eqb, length}
use Rattle.std.proofs.Math.Option.{Option, none as nil, some}
use Rattle.rules.specs.Order.{left, right, toward, is_toward, by_order, choose}
use Rattle.rules.specs.Edition.{Edition}
use Rattle.rules.specs.Command.{Command, get, next, prev, remove, write, insert, min, max, take_first, take_last, clear, len, unknown, Code, FOUND, ABSENT, NEW, REPLACED, REMOVED, FULL, COUNT, UNKNOWN, Reply}

-- A live entry.
pub record Pair (K : Type 0) : Type 0 where
  pub key : K
  pub value : ℕ

-- What an insert comes to: it replaces the key's pair, it finds N pairs there, or it adds a pair.
pub data Storing (K : Type 0) : Type 0 where
  replaces : Pair K → Storing K
  is_full adds : Storing K

-- The first of two where there is one, otherwise the second.
abbrev pub or_else {ℓ} : {A : Type ℓ} → Option A → Option A → Option A
or_else nil b = b
or_else (some a) b = some a

module _ {A : Type 0} where
  abbrev pub first : List A → Option A
  first [] = nil
  first (x ∷ l) = some x

  unfoldable pub last : List A → Option A
  last [] = nil
  last (x ∷ l) = or_else (last l) (some x)

  abbrev pub but_first : List A → List A
  but_first [] = []
  but_first (x ∷ l) = l

  unfoldable pub but_last : List A → List A
  but_last [] = []
  but_last (x ∷ []) = []
  but_last (x ∷ (y ∷ l)) = x ∷ but_last (y ∷ l)

module _ {K : Type 0} (ed : Edition K) where
  -- Every key of the list is greater than k.
  abbrev pub Before : K → List (Pair K) → Type 0
  Before k [] = Unit {0}
  Before k (x ∷ l) = (ed.order k x.key ≡ toward left) × Before k l

  -- "Keys strictly ascend from left to right": each is less than all that follow it.
  abbrev pub Ascending : List (Pair K) → Type 0
  Ascending [] = Unit {0}
  Ascending (x ∷ l) = Before x.key l × Ascending l

  -- The key's pair.
  unfoldable pub find : K → List (Pair K) → Option (Pair K)
  find k [] = nil
  find k (x ∷ l) = by_order (ed.order k x.key) (some x) (find k l) (find k l)

  -- The first pair above the key, and the last below it.
  unfoldable pub above : K → List (Pair K) → Option (Pair K)
  above k [] = nil
  above k (x ∷ l) = choose (is_toward left (ed.order k x.key)) (some x) (above k l)

  unfoldable pub below : K → List (Pair K) → Option (Pair K)
  below k [] = nil
  below k (x ∷ l) = or_else (below k l) (choose (is_toward right (ed.order k x.key)) (some x) nil)

  -- The list with a pair put in its place: added, or in the stead of the key's old one.
  unfoldable pub put : Pair K → List (Pair K) → List (Pair K)
  put p [] = p ∷ []
  put p (x ∷ l) = by_order (ed.order p.key x.key) (p ∷ l) (p ∷ (x ∷ l)) (x ∷ put p l)

  -- The list without the key's pair.
  unfoldable pub without : K → List (Pair K) → List (Pair K)
  without k [] = []
  without k (x ∷ l) = by_order (ed.order k x.key) l (x ∷ without k l) (x ∷ without k l)

  abbrev pub pair : K → ℕ → Pair K
  pair k v = record { key = k; value = v }

  abbrev pub if_there : Option (Pair K) → List (Pair K) → List (Pair K) → List (Pair K)
  if_there nil there not_there = not_there
  if_there (some p) there not_there = there

  -- 5: "a pair that the key has gets the command's value; otherwise a pair is added, but not to N pairs".
  abbrev pub storing_by : Option (Pair K) → Bool → Storing K
  storing_by (some p) is_N = replaces p
  storing_by nil true = is_full
  storing_by nil false = adds

  abbrev pub storing : ℕ → K → List (Pair K) → Storing K
  storing n k l = storing_by (find k l) (eqb (length l) n)

  abbrev pub stored : Storing K → Pair K → List (Pair K) → List (Pair K)
  stored (replaces q) p l = put p l
  stored is_full p l = l
  stored adds p l = put p l

  -- "The list afterwards", command by command. 2: "a pair that the key has gets the command's value". 6: "without the key's pair". 9 and
  -- 10: "without that pair", which is the first or the last. 11: "empty". All others: "the same".
  unfoldable pub after : ℕ → Command K → List (Pair K) → List (Pair K)
  after n (get k) l = l
  after n (write k v) l = if_there (find k l) (put (pair k v) l) l
  after n (next k) l = l
  after n (prev k) l = l
  after n (insert k v) l = stored (storing n k l) (pair k v) l
  after n (remove k) l = without k l
  after n min l = l
  after n max l = l
  after n take_first l = but_first l
  after n take_last l = but_last l
  after n clear l = []
  after n len l = l
  after n unknown l = l

  abbrev pub replies : Code → K → ℕ → Reply K
  replies c k v = record { code = c; key = k; value = v }

  abbrev pub says : Code → Reply K
  says c = replies c ed.zero_key 0

  -- A code with the entry, or ABSENT where there is none.
  abbrev pub with_entry : Code → Option (Pair K) → Reply K
  with_entry c nil = says ABSENT
  with_entry c (some p) = replies c p.key p.value

  -- The codes of 5: NEW, REPLACED with the old value, or FULL.
  abbrev pub stored_reply : Storing K → K → Reply K
  stored_reply (replaces p) k = replies REPLACED p.key p.value
  stored_reply is_full k = says FULL
  stored_reply adds k = replies NEW k 0

  -- "Its entry, from the list before", with the code of "the table of the answers". 1, 2, 5, 6: "the key's pair". 3: "the first pair above
  -- the key". 4: "the last pair below the key". 7 to 10: "the first pair, the last pair". 11 and 12 tell "the length of the list before".
  unfoldable pub reply : ℕ → Command K → List (Pair K) → Reply K
  reply n (get k) l = with_entry FOUND (find k l)
  reply n (write k v) l = with_entry REPLACED (find k l)
  reply n (next k) l = with_entry FOUND (above k l)
  reply n (prev k) l = with_entry FOUND (below k l)
  reply n (insert k v) l = stored_reply (storing n k l) k
  reply n (remove k) l = with_entry REMOVED (find k l)
  reply n min l = with_entry FOUND (first l)
  reply n max l = with_entry FOUND (last l)
  reply n take_first l = with_entry REMOVED (first l)
  reply n take_last l = with_entry REMOVED (last l)
  reply n clear l = replies COUNT ed.zero_key (length l)
  reply n len l = replies COUNT ed.zero_key (length l)
  reply n unknown l = says UNKNOWN
