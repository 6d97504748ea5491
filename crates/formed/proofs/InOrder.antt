-- A tree's slots from left to right: how often each stands there, what they hold, and that keys which ascend meet no slot twice.
use mathlib.Core.List.{List, [], ◌∷◌, ◌++◌}
use mathlib.Core.Path.{◌≡◌, refl, ◌∙◌}
use Prim.Native.Nat.{ℕ, ◌+◌, ◌≤◌}
use native.Mathlib.Omega.{arith}
use lib.ListN.{length, length-append}
use Rattle.rules.specs.Edition.{Edition}
use Rattle.rules.specs.Live.{Pair, Before, Ascending}
use Rattle.rules.specs.Tree.{Tree, none, node, size, times, entries}
use Rattle.rules.specs.Arena.{Slot, listed, Holds}
use Rattle.rules.proofs.Order.{Lawful, self}
use Rattle.rules.proofs.Hit.{hit_cases}

pub listed_append : (s : ℕ) (a b : List ℕ) → listed s (a ++ b) ≡ listed s a + listed s b
listed_append s [] b = omega arith
listed_append s (x ∷ a) b = omega (arith, listed_append s a b)

module _ {K : Type 0} where
  unfoldable pub in_order : Tree K → List ℕ
  in_order none = []
  in_order (node e l r) = in_order l ++ (e.slot ∷ in_order r)

  pub in_order_times : (s : ℕ) (t : Tree K) → listed s (in_order t) ≡ times s t
  unfolding in_order
  in_order_times s none = refl
  in_order_times s (node e l r) =
      omega (arith, listed_append s (in_order l) (e.slot ∷ in_order r), in_order_times s l, in_order_times s r)

  pub in_order_size : (t : Tree K) → length (in_order t) ≡ size t
  unfolding in_order
  in_order_size none = refl
  in_order_size (node e l r) =
      omega (arith, length-append (in_order l) (e.slot ∷ in_order r), in_order_size l, in_order_size r)

  -- What the slots of a list hold.
  abbrev pub pairs : (ℕ → Slot K) → List ℕ → List (Pair K)
  pairs m [] = []
  pairs m (s ∷ l) = record { key = (m s).key; value = (m s).value } ∷ pairs m l

  pairs_append : (m : ℕ → Slot K) (a b : List ℕ) → pairs m (a ++ b) ≡ pairs m a ++ pairs m b
  pairs_append m [] b = refl
  pairs_append m (s ∷ a) b = rw (pairs_append m a b)

  pub in_order_entries : (m : ℕ → Slot K) (t : Tree K) → Holds m t → pairs m (in_order t) ≡ entries t
  unfolding in_order entries
  in_order_entries m none h = refl
  in_order_entries m (node e l r) h =
      pairs_append m (in_order l) (e.slot ∷ in_order r)
      ∙ rw (h.0, in_order_entries m l h.1, in_order_entries m r h.2)

module _ {K : Type 0} (ed : Edition K) (laws : Lawful ed) (m : ℕ → Slot K) where
  -- A slot does not stand behind its own key.
  not_again : (s : ℕ) (l : List ℕ) → Before ed (m s).key (pairs m l) → listed s l ≡ 0
  not_again s [] h = refl
  not_again s (x ∷ l) h = grind (arith, hit_cases s x, self ed laws (m s).key, not_again s l h.1)

  pub ascending_once : (l : List ℕ) → Ascending ed (pairs m l) → (s : ℕ) → listed s l ≤ 1
  ascending_once [] a s = omega arith
  ascending_once (x ∷ l) a s = grind (arith, hit_cases s x, not_again x l a.0, ascending_once l a.1 s)
