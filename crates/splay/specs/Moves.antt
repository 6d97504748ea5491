-- A rotation in words, an end of a tree that rises to the root, and a tree without its root.
use Rattle.std.specs.Prelude.{List, ℕ, ◌+◌, ◌*◌, ◌<◌, get_or, set}
use Rattle.rules.specs.Order.{Side, Order, of_side}
use Rattle.rules.specs.Edition.{edition}
use Rattle.rules.specs.Tree.{Entry, Tree, none, node, fork, times}
use Rattle.rules.specs.Splay.{Splayed, splay}
use Rattle.rules.specs.Perform.{hung_on}
use Rattle.node.specs.Stands.{Stands, Changed}

-- The words after a rotation: up, the child in the word p of x, rises over x, and takes x into its word q.
abbrev pub rotated : ℕ → ℕ → ℕ → List ℕ → ℕ → ℕ → List ℕ
rotated wd p q w x up = set (set w ((3 + wd) * x + p) (get_or w ((3 + wd) * up + q) 0)) ((3 + wd) * up + q) x

-- Some tree with a node stands at the link x. (A clause and no type, as `Inside` is, and for the same reason.)
abbrev pub Somewhere : ℕ → List ℕ → ℕ → Type 0
Somewhere wd w x = (t : Tree ℕ) × Stands (edition wd) w x t × (0 < x)

-- The tree t' stands at the link x where t stood, and only slots of t have changed.
pub record Became (wd : ℕ) (w w' : List ℕ) (x : ℕ) (t t' : Tree ℕ) : Type 0 where
  pub stands : Stands (edition wd) w' x t'
  pub only : Changed (edition wd) (λ s. times s t) w w'

module _ {K : Type 0} where
  -- The child on the side d is rotated up until there is none: the root e, its child on the side d first, then the other.
  unfoldable pub risen : Side → Tree K → Entry K → Tree K → Tree K
  risen d none e far = fork d e none far
  risen d (node c l r) e far = of_side d (risen d l) (risen d r) c (fork d e (of_side d r l) far)

  abbrev pub end_risen : Side → Tree K → Tree K
  end_risen d none = none
  end_risen d (node e l r) = risen d (of_side d l r) e (of_side d r l)

  -- "The left subtree is splayed with the same key, which adds to the count, and the right subtree becomes the right child of its new root.
  -- Without a left subtree, the right subtree becomes the tree."
  abbrev pub root_gone : (K → K → Order) → K → Tree K → Splayed K
  root_gone cmp k none = record { tree = none; count = 0 }
  root_gone cmp k (node e l r) =
      let s = splay cmp k l in record { tree = hung_on s.tree r; count = s.count }
