-- The twelve commands on a tree with its slots and a free chain: the answer, the comparisons, and what is there afterwards.
use Rattle.std.specs.Prelude.{List, [], ◌∷◌, ℕ, zero, suc, ◌+◌, eqb}
use Rattle.std.proofs.Math.Option.{Option, none as nil, some}
use Rattle.rules.specs.Order.{Side, left, right, Order, equal, toward, is_toward, of_side, choose}
use Rattle.rules.specs.Tree.{Entry, Tree, none, node, fork, size}
use Rattle.rules.specs.Splay.{splay}
use Rattle.rules.specs.Edition.{Edition}
use Rattle.rules.specs.Command.{Command, get, next, prev, remove, write, insert, min, max, take_first, take_last, clear, len, unknown, FOUND, ABSENT, NEW, REPLACED, REMOVED, FULL, COUNT, UNKNOWN, Answer, telling, bare}

-- What an arena holds: N, which is also how many entries there is room for; the tree; and the slots of the free chain from its first on.
pub record State (K : Type 0) : Type 0 where
  pub slots : ℕ
  pub tree : Tree K
  pub free : List ℕ

pub record Outcome (K : Type 0) : Type 0 where
  pub answer : Answer K
  pub state : State K

-- The slots from a first on, as many as asked.
unfoldable pub counting : ℕ → ℕ → List ℕ
counting zero from = []
counting (suc n) from = from ∷ counting n (suc from)

-- "To look a key up": the order at the new root, the root, its children, and the comparisons in all. Or there is no tree.
pub data Met (K : Type 0) : Type 0 where
  nobody : Met K
  met : Order → Entry K → Tree K → Tree K → ℕ → Met K

-- What there is for a new key: no slot, or the first free one and the chain after it.
pub data Room : Type 0 where
  full : Room
  in_slot : ℕ → List ℕ → Room

abbrev pub first_of : List ℕ → Room
first_of [] = full
first_of (s ∷ more) = in_slot s more

module _ {K : Type 0} where
  -- "Making an arena of N slots leaves it with no entry: root link and size are 0, and all slots are chained, from slot 0 upwards."
  unfoldable pub new : ℕ → State K
  new n = record { slots = n; tree = none; free = counting n 0 }

  abbrev pub with_tree : Tree K → State K → State K
  with_tree t st = record { slots = st.slots; tree = t; free = st.free }

  -- "An insert that stores a new key takes the chain's first slot. A slot that is freed goes to the front of the chain."
  abbrev pub taking : Tree K → List ℕ → State K → State K
  taking t more st = record { slots = st.slots; tree = t; free = more }

  abbrev pub freeing : ℕ → Tree K → State K → State K
  freeing s t st = record { slots = st.slots; tree = t; free = s ∷ st.free }

  -- "5 FULL": "the key is not there and the size is N". (Below N the chain has a first slot, `rooms` in proofs/Brought.antt; so the size
  -- alone decides.)
  unfoldable pub room : State K → Room
  room st = choose (eqb (size st.tree) st.slots) full (first_of st.free)

  abbrev pub revalued : ℕ → Entry K → Entry K
  revalued v e = record { slot = e.slot; key = e.key; value = v }

  -- "Where its key is less than the root's, the root's left subtree becomes its left subtree and the root its right child; where it is
  -- greater, the mirror image."
  abbrev pub new_root : Side → Entry K → Entry K → Tree K → Tree K → Tree K
  new_root s x e l r = fork s x (of_side s l r) (fork s e none (of_side s r l))

  -- "The right subtree becomes the right child of its new root. Without a left subtree, the right subtree becomes the tree." The new root's
  -- right child x is empty here, since the key was right of all of the left subtree (law `hung` in proofs/Brought.antt); the Rust
  -- overwrites it too.
  abbrev pub hung_on : Tree K → Tree K → Tree K
  hung_on none r = r
  hung_on (node e l x) r = node e l r

  -- The outermost entry on the side d, or the one already known.
  unfoldable pub outermost : Side → Tree K → Option (Entry K) → Option (Entry K)
  outermost d none known = known
  outermost d (node e l r) known = of_side d (outermost d l) (outermost d r) (some e)

  abbrev pub gives : Answer K → State K → Outcome K
  gives a st = record { answer = a; state = st }

module _ {K : Type 0} (ed : Edition K) where
  -- The comparison with the new root "counts one more". "An empty tree is not splayed, and nothing is compared there."
  abbrev pub root_met : K → Tree K → ℕ → Met K
  root_met k none n = nobody
  root_met k (node e l r) n = met (ed.order k e.key) e l r (suc n)

  unfoldable pub bring : K → Tree K → Met K
  bring k t = let s = splay ed.order k t in root_met k s.tree s.count

  -- "1, 2, 6: the key is not there": it is ABSENT, and the tree stays splayed. At a key that is there, `present` goes on.
  unfoldable pub if_present : (Entry K → Tree K → Tree K → ℕ → State K → Outcome K) → Met K → State K → Outcome K
  if_present present nobody st = gives (bare ed ABSENT 0) st
  if_present present (met equal e l r n) st = present e l r n st
  if_present present (met (toward s) e l r n) st = gives (bare ed ABSENT n) (with_tree (node e l r) st)

  -- 1 get "looks the key up".
  abbrev pub found : Entry K → Tree K → Tree K → ℕ → State K → Outcome K
  found e l r n st = gives (telling ed FOUND e.key e.value n) (with_tree (node e l r) st)

  -- 2 write if present: "if it is there, its value becomes the command's".
  abbrev pub replaced : ℕ → Entry K → Tree K → Tree K → ℕ → State K → Outcome K
  replaced v e l r n st =
      gives (telling ed REPLACED e.key e.value n) (with_tree (node (revalued v e) l r) st)

  -- 6 remove: "the left subtree is splayed with the same key, which adds to the count, and the right subtree becomes the right child of its
  -- new root".
  abbrev pub removed : K → Entry K → Tree K → Tree K → ℕ → State K → Outcome K
  removed k e l r n st =
      let s = splay ed.order k l in
      gives (telling ed REMOVED e.key e.value (n + s.count)) (freeing e.slot (hung_on s.tree r) st)

  -- 5 insert: "if it is there, its value becomes the command's; if not, and the size is below N, a new node becomes the root". FULL leaves
  -- the tree "splayed, and counted, as by a get".
  unfoldable pub inserted : K → ℕ → Met K → Room → State K → Outcome K
  inserted k v (met equal e l r n) slot st = replaced v e l r n st
  inserted k v nobody full st = gives (bare ed FULL 0) st
  inserted k v nobody (in_slot x more) st =
      gives (telling ed NEW k 0 0) (taking (node (record { slot = x; key = k; value = v }) none none) more st)
  inserted k v (met (toward s) e l r n) full st = gives (bare ed FULL n) (with_tree (node e l r) st)
  inserted k v (met (toward s) e l r n) (in_slot x more) st =
      gives (telling ed NEW k 0 n) (taking (new_root s (record { slot = x; key = k; value = v }) e l r) more st)

  abbrev pub entry_or : Option (Entry K) → ℕ → Answer K
  entry_or nil n = bare ed ABSENT n
  entry_or (some e) n = telling ed FOUND e.key e.value n

  -- 3, 4 next, prev: the walk "begins at the root and ends where the child that it would go to is missing; each node that it meets counts
  -- one". d is the side on which the sought key lies of its neighbour: left for next, right for prev. "For next it goes left at a node
  -- whose key is above the sought one, and remembers that node; otherwise, at an equal key too, it goes right." Prev is the same at the
  -- other side. "The entry is the node remembered last."
  unfoldable pub seek : Side → K → Tree K → Option (Entry K) → ℕ → Answer K
  seek d k none best n = entry_or best n
  seek d k (node e l r) best n =
      choose (is_toward d (ed.order k e.key))
      (of_side d (seek d k l) (seek d k r) (some e) (suc n))
      (of_side d (seek d k r) (seek d k l) best (suc n))

  abbrev pub neighbour : Side → K → State K → Outcome K
  neighbour d k st =
      let s = splay ed.order k st.tree in gives (seek d k s.tree nil s.count) (with_tree s.tree st)

  -- 7, 8 min, max: "without a splay, a comparison or a change".
  abbrev pub outer : Side → State K → Outcome K
  outer d st = gives (entry_or (outermost d st.tree nil) 0) st

  -- 9, 10 take first, take last: "rotates the root's left child up (take last: its right child) until the root has none there. Then the
  -- root is removed, and its other subtree becomes the tree." The root is e; its child on the side d comes first, `far` is the other.
  unfoldable pub raise : Side → Tree K → Entry K → Tree K → State K → Outcome K
  raise d none e far st = gives (telling ed REMOVED e.key e.value 0) (freeing e.slot far st)
  raise d (node c l r) e far st = of_side d (raise d l) (raise d r) c (fork d e (of_side d r l) far) st

  abbrev pub taken : Side → Tree K → State K → Outcome K
  taken d none st = gives (bare ed ABSENT 0) st
  taken d (node e l r) st = raise d (of_side d l r) e (of_side d r l) st

  -- "6 COUNT": "0, the size before".
  abbrev pub counted : State K → Answer K
  counted st = telling ed COUNT ed.zero_key (size st.tree) 0

  unfoldable pub perform : Command K → State K → Outcome K
  perform (get k) st = if_present found (bring k st.tree) st
  perform (write k v) st = if_present (replaced v) (bring k st.tree) st
  perform (next k) st = neighbour left k st
  perform (prev k) st = neighbour right k st
  perform (insert k v) st = inserted k v (bring k st.tree) (room st) st
  perform (remove k) st = if_present (removed k) (bring k st.tree) st
  perform min st = outer left st
  perform max st = outer right st
  perform take_first st = taken left st.tree st
  perform take_last st = taken right st.tree st
  perform clear st = gives (counted st) (new st.slots)
  perform len st = gives (counted st) st
  perform unknown st = gives (bare ed UNKNOWN 0) st
