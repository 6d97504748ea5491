-- What a key meets at the root after the splay.
use Rattle.std.specs.Prelude.{true, false, List, ◌≡◌, ℕ, ◌≤◌}
use Rattle.rules.specs.Order.{Side, equal, toward}
use Rattle.rules.specs.Edition.{edition, most_slots}
use Rattle.rules.specs.Tree.{Entry, Tree, none, node, weigh, size}
use Rattle.rules.specs.Perform.{nobody, met, bring}
use Rattle.node.specs.Stands.{Stands}
use Rattle.splay.specs.Moves.{Became}
use Rattle.lookups.specs.declared.lookup.Met.{Met}

-- A tree that stands at the link x, with no more nodes than an arena has slots. (A clause and no type, as `Inside` is.)
pub record Few (wd : ℕ) (w : List ℕ) (x : ℕ) (t : Tree ℕ) : Type 0 where
  pub stands : Stands (edition wd) w x t
  pub few : size t ≤ most_slots

-- The tree t has this root and these subtrees now, and x is the link to the root.
pub record AtRoot (wd : ℕ) (t : Tree ℕ) (w w' : List ℕ) (x : ℕ) (e : Entry ℕ) (l r : Tree ℕ) : Type 0 where
  pub became : Became wd w w' x t (node e l r)
  pub weighs : (f : Entry ℕ → ℕ) → weigh f (node e l r) ≡ weigh f t

-- There is no tree; or the key lies on a side of the root; or it is the root's.
pub data Meets (wd k : ℕ) (t : Tree ℕ) (w w' : List ℕ) (m : Met) : Type 0 where
  no_tree : m.here ≡ false → m.root ≡ 0 → m.count ≡ 0 → bring (edition wd) k t ≡ nobody → t ≡ none → w' ≡ w → Meets wd k t w w' m
  beside : (s : Side) (e : Entry ℕ) (l r : Tree ℕ) → m.here ≡ false → bring (edition wd) k t ≡ met (toward s) e l r m.count
      → AtRoot wd t w w' m.root e l r → Meets wd k t w w' m
  here : (e : Entry ℕ) (l r : Tree ℕ) → m.here ≡ true → bring (edition wd) k t ≡ met equal e l r m.count
      → AtRoot wd t w w' m.root e l r → Meets wd k t w w' m
