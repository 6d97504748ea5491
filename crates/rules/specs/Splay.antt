-- "The splay": "simplified top-down splaying" as a function on trees, with its comparisons counted.
use Rattle.std.specs.Prelude.{Bool, true, false, List, [], ◌∷◌, ℕ, zero, suc}
use Rattle.rules.specs.Order.{Side, left, right, Order, equal, toward, is_toward, of_side, by_order}
use Rattle.rules.specs.Tree.{Entry, Tree, none, node, fork, hang, size}

-- The left tree and the right tree gathered so far, and the comparisons made.
pub record Gathered (K : Type 0) : Type 0 where
  pub left_tree : Tree K
  pub right_tree : Tree K
  pub count : ℕ

-- What a step ends in: the walk stops at a node, or goes on at the node below. Each is given as the tree whose root it is.
pub data Step (K : Type 0) : Type 0 where
  stop go_on : Tree K → Gathered K → Step K

pub record Splayed (K : Type 0) : Type 0 where
  pub tree : Tree K
  pub count : ℕ

module _ {K : Type 0} where
  -- "A left tree and a right tree that are both empty".
  abbrev pub nothing : Gathered K
  nothing = record { left_tree = none; right_tree = none; count = 0 }

  -- "Every comparison of the key with a node's key counts one."
  abbrev pub tick : Gathered K → Gathered K
  tick g = record { left_tree = g.left_tree; right_tree = g.right_tree; count = suc g.count }

  -- A tree joins the right tree at its smallest end where the walk goes left, and the left tree at its largest end where it goes right.
  abbrev pub join : Side → Tree K → Gathered K → Gathered K
  join left t g = record { left_tree = g.left_tree; right_tree = hang left g.right_tree t; count = g.count }
  join right t g = record { left_tree = hang right g.left_tree t; right_tree = g.right_tree; count = g.count }

  -- "If the child has no left child, the walk stops. If it has not stopped, the step ends with a link: the node that the walk stands at is
  -- hung on the right tree, at its smallest end, without its left subtree, and the walk goes on at the root of that subtree." The node is
  -- e; `near` is its child on the side s of the key, `far` the other.
  abbrev pub link : Side → Entry K → Tree K → Tree K → Gathered K → Step K
  link s e none far g = stop (fork s e none far) g
  link s e (node c l r) far g = go_on (node c l r) (join s (fork s e none far) g)

  -- "If it is less than the child too, the node is rotated right: the child takes the node's place, the node becomes the child's right
  -- child, and the child's right subtree becomes the node's left one." The child is c; `near` is its own child on the side s, `mid` the
  -- other.
  abbrev pub rotate_or_link : Bool → Side → Entry K → Entry K → Tree K → Tree K → Tree K → Gathered K → Step K
  rotate_or_link true s e c near mid far g = link s c near (fork s e mid far) g
  rotate_or_link false s e c near mid far g = link s e (fork s c near mid) far g

  -- "After the stop, the node's left subtree is hung on the left tree, at its largest end, and its right subtree on the right tree, at its
  -- smallest end. The left tree and the right tree become the node's children, and the node is the new root."
  abbrev pub assemble : Tree K → Gathered K → Splayed K
  assemble none g = record { tree = none; count = g.count }
  assemble (node e l r) g =
      record { tree = node e (hang right g.left_tree l) (hang left g.right_tree r); count = g.count }

  -- After a step: the trees are assembled at the stop, or the walk goes on.
  abbrev pub go_by : (Tree K → Gathered K → Splayed K) → Step K → Splayed K
  go_by further (stop t g) = assemble t g
  go_by further (go_on t g) = further t g

  module _ (cmp : K → K → Order) (k : K) where
    -- "Less: without a left child, the walk stops. Otherwise the key is compared with that child."
    abbrev pub look : Side → Entry K → Tree K → Tree K → Gathered K → Step K
    look s e none far g = stop (fork s e none far) g
    look s e (node c l r) far g =
        rotate_or_link (is_toward s (cmp k c.key)) s e c (of_side s l r) (of_side s r l) far (tick g)

    -- "Equal: the walk stops." "Less", and "Greater: the mirror image".
    abbrev pub turn : Order → Entry K → Tree K → Tree K → Gathered K → Step K
    turn equal e l r g = stop (node e l r) g
    turn (toward left) e l r g = look left e l r g
    turn (toward right) e l r g = look right e r l g

    -- "At each step the key is compared with the node that the walk stands at." An empty tree has no node; the walk never comes to one.
    abbrev pub step : Tree K → Gathered K → Step K
    step none g = stop none g
    step (node e l r) g = turn (cmp k e.key) e l r (tick g)

    -- At most n steps.
    unfoldable pub walk : ℕ → Tree K → Gathered K → Splayed K
    walk zero t g = assemble t g
    walk (suc n) t g = go_by (walk n) (step t g)

    -- "Its walk starts at the root, with a left tree and a right tree that are both empty." Each step goes on at a smaller tree, so a step
    -- for each node is enough: in proofs/Splay.antt the function obeys the rules one by one (`splay_obeys`), and nothing else does
    -- (`splay_only`).
    unfoldable pub splay : Tree K → Splayed K
    splay t = walk (size t) t nothing

    -- The nodes that a plain search for the key meets, from the root down. "The new root is the last node of the plain search path for the
    -- key" (proofs/Path.antt).
    unfoldable pub path : Tree K → List (Entry K)
    path none = []
    path (node e l r) = e ∷ by_order (cmp k e.key) [] (path l) (path r)
