-- The tests on two numbers that say a side; one step of the walks of next, prev, min and max, for either side; and next and prev on an
-- empty tree.
use mathlib.Core.Bool.{Bool, true, false}
use mathlib.Core.Option.{Option, none as nil, some}
use mathlib.Core.Path.{◌≡◌, refl, sym, ap, ◌∙◌}
use Prim.Native.Nat.{ℕ, suc, ◌<◌}
use native.Mathlib.Omega.{arith}
use lib.Dec.{ltb}
use borrow.Author.Tests.{lt-ltb, le-ltb}
use Rattle.rules.specs.Order.{Side, left, right, other, Order, equal, toward, is_toward, of_side, choose, by_number}
use Rattle.rules.specs.Edition.{Edition}
use Rattle.rules.specs.Tree.{Entry, Tree, none, node, size}
use Rattle.rules.specs.Splay.{splay, walk}
use Rattle.rules.specs.Command.{ABSENT, bare}
use Rattle.rules.specs.Perform.{State, with_tree, gives, outermost, seek, neighbour}
use Rattle.rules.proofs.Order.{Says, order_says}

test_says : (d : Side) (o : Order) (a b : ℕ) → Says o a b → of_side d (ltb a b) (ltb b a) ≡ is_toward d o
test_says left equal a b h = le-ltb a b (omega arith)
test_says left (toward left) a b h = lt-ltb a b h
test_says left (toward right) a b h = le-ltb a b (omega arith)
test_says right equal a b h = le-ltb b a (omega arith)
test_says right (toward left) a b h = le-ltb b a (omega arith)
test_says right (toward right) a b h = lt-ltb b a h

-- a lies on the left of b where it is less, and on the right where b is.
pub side_test : (d : Side) (a b : ℕ) → of_side d (ltb a b) (ltb b a) ≡ is_toward d (by_number a b)
side_test d a b = test_says d (by_number a b) a b (order_says (by_number a b) a b refl)

module _ {K : Type 0} where
  pub child_less : (s : Side) (e : Entry K) (l r : Tree K) → size (of_side s l r) < size (node e l r)
  child_less left e l r = omega arith
  child_less right e l r = omega arith

  pub outermost_step : (d : Side) (e : Entry K) (l r : Tree K) (known : Option (Entry K))
      → outermost d (node e l r) known ≡ outermost d (of_side d l r) (some e)
  unfolding outermost
  outermost_step left e l r known = refl
  outermost_step right e l r known = refl

module _ {K : Type 0} (ed : Edition K) (d : Side) (k : K) where
  -- From an entry that is better the walk goes to the side d, and from one that is not to the other side.
  pub seek_step : (b : Bool) (e : Entry K) (l r : Tree K) (known : Option (Entry K)) (n : ℕ) → is_toward d (ed.order k e.key) ≡ b
      → seek ed d k (node e l r) known n ≡ seek ed d k (of_side (choose b d (other d)) l r) (choose b (some e) known) (suc n)
  unfolding seek
  seek_step b e l r known n p = rw p (by d b)
    where
      by : (d : Side) (b : Bool)
          → choose b (of_side d (seek ed d k l) (seek ed d k r) (some e) (suc n)) (of_side d (seek ed d k r) (seek ed d k l) known (suc n))
          ≡ seek ed d k (of_side (choose b d (other d)) l r) (choose b (some e) known) (suc n)
      by left true = refl
      by left false = refl
      by right true = refl
      by right false = refl

  -- On an empty tree there is no neighbour, and nothing changes.
  pub neighbour_nobody : (st : State K) → st.tree ≡ none → neighbour ed d k st ≡ gives (bare ed ABSENT 0) st
  unfolding seek splay walk
  neighbour_nobody st e =
      ap (λ (t : Tree K). let s = splay ed.order k t in gives (seek ed d k s.tree nil s.count) (with_tree s.tree st)) e
      ∙ ap (λ (t : Tree K). gives (bare ed ABSENT 0) (with_tree t st)) (sym e)
