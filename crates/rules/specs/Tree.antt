-- Trees whose nodes stand in slots.
use Rattle.std.specs.Prelude.{List, [], ◌∷◌, ◌++◌, ℕ, suc, ◌+◌, eqb}
use Rattle.rules.specs.Order.{Side, left, right, choose}
use Rattle.rules.specs.Live.{Pair}

-- A key with its value, and the slot that they stand in.
pub record Entry (K : Type 0) : Type 0 where
  pub slot : ℕ
  pub key : K
  pub value : ℕ

pub data Tree (K : Type 0) : Type 0 where
  none : Tree K
  node : Entry K → Tree K → Tree K → Tree K

-- 1 where two slots are the same, otherwise 0.
unfoldable pub hit : ℕ → ℕ → ℕ
hit s x = choose (eqb s x) 1 0

module _ {K : Type 0} where
  -- The node whose child on the side s is `near`, and whose other child is `far`.
  abbrev pub fork : Side → Entry K → Tree K → Tree K → Tree K
  fork left e near far = node e near far
  fork right e near far = node e far near

  -- x hung at the end of a tree on the side s: at its smallest end on the left, at its largest on the right.
  unfoldable pub hang : Side → Tree K → Tree K → Tree K
  hang s none x = x
  hang left (node e l r) x = node e (hang left l x) r
  hang right (node e l r) x = node e l (hang right r x)

  -- The live entries of the tree, from left to right.
  abbrev pub pair_of : Entry K → Pair K
  pair_of e = record { key = e.key; value = e.value }

  unfoldable pub entries : Tree K → List (Pair K)
  entries none = []
  entries (node e l r) = entries l ++ (pair_of e ∷ entries r)

  -- The sum of a number for each node.
  abbrev pub weigh : (Entry K → ℕ) → Tree K → ℕ
  weigh f none = 0
  weigh f (node e l r) = f e + (weigh f l + weigh f r)

  -- How many nodes there are, and how many of them stand in the slot s.
  abbrev pub size : Tree K → ℕ
  size t = weigh (λ e. 1) t

  abbrev pub times : ℕ → Tree K → ℕ
  times s t = weigh (λ e. hit s e.slot) t

  -- "A link of 0 leads nowhere, and a link of s+1 leads to slot s."
  abbrev pub link_to : Tree K → ℕ
  link_to none = 0
  link_to (node e l r) = suc e.slot
