-- The walk over a tree from left to right: what is left to be asked at each step, in any memory of slots.
use mathlib.Core.List.{List, [], ◌∷◌, ◌++◌, append_assoc, append-nil}
use mathlib.Core.Path.{◌≡◌, refl, sym}
use Prim.Native.Nat.{ℕ, suc, ◌+◌, ◌≤◌, ◌<◌}
use native.Mathlib.Omega.{arith}
use lib.ListN.{length, length-append}
use Rattle.rules.specs.Order.{left, toward}
use Rattle.rules.specs.Edition.{Edition}
use Rattle.rules.specs.Live.{Before, Ascending}
use Rattle.rules.specs.Tree.{Tree, none, node, times, link_to}
use Rattle.rules.specs.Arena.{Slot, listed, Holds, slot_at}
use Rattle.rules.proofs.Hit.{hit_same, hit_other}
use Rattle.rules.proofs.Order.{Lawful}
use Rattle.rules.proofs.Ascending.{before_lies, lies_before, lies_on}
use Rattle.formed.specs.Verdict.{TreeStands}
use Rattle.formed.proofs.InOrder.{in_order, listed_append, in_order_times, in_order_size, in_order_entries, pairs, ascending_once}

module _ {K : Type 0} (ed : Edition K) (m : ℕ → Slot K) (n size : ℕ) where
  -- The links that wait, the next of them first, and the slots that are met for them: its own, then those of the tree that is held at its
  -- right link, then those of the links after it.
  pub data Pending : List ℕ → List ℕ → Type 0 where
    nobody : Pending [] []
    then : {s : ℕ} {waiting after : List ℕ} (t : Tree K) → (m s).right ≡ link_to t → Holds m t → Pending waiting after
        → Pending (suc s ∷ waiting) (s ∷ (in_order t ++ after))

  -- The slots are below n, their keys ascend and are greater than the last that was met, and they are as many as are left.
  pub record Meets (count : ℕ) (last : K) (met : List ℕ) : Type 0 where
    pub within : (s : ℕ) → n ≤ s → listed s met ≡ 0
    pub above : 0 < count → Before ed last (pairs m met)
    pub ascending : Ascending ed (pairs m met)
    pub number : count + length met ≡ size

  -- What is left to be asked at the link x: a tree that is held there, and what is met for the links that wait.
  pub data Rest (x : ℕ) (waiting : List ℕ) (count : ℕ) (last : K) : Tree K × List ℕ → Type 0 where
    rest : {t : Tree K} {after : List ℕ} → x ≡ link_to t → Holds m t → Pending waiting after → Meets count last (in_order t ++ after)
        → Rest x waiting count last (t, after)

  waiting_few : {waiting after : List ℕ} → Pending waiting after → length waiting ≤ length after
  waiting_few nobody = omega arith
  waiting_few (then {after = after} t q h p) = omega (arith, waiting_few p, length-append (in_order t) after)

  module _ {s count : ℕ} {waiting : List ℕ} {last : K} where
    -- At a node, its left subtree is asked for, with the node among those that wait.
    pub down : (f : Tree K × List ℕ) → Rest (suc s) waiting count last f
        → (g : Tree K × List ℕ) × Rest (m s).left (suc s ∷ waiting) count last g
    unfolding in_order
    down (none, after) (rest q h p b) = absurd (omega (arith, q))
    down (node e l r, after) (rest q h p b) =
        let i : e.slot ≡ s = omega (arith, q) in (
          (l, s ∷ (in_order r ++ after)),
          rest (grind arith) h.1 (then r (grind arith) h.2 p) (rw (append_assoc, i) at b),
        )

    pub down_back : (f : Tree K × List ℕ) → Rest (m s).left (suc s ∷ waiting) count last f
        → (g : Tree K × List ℕ) × Rest (suc s) waiting count last g
    unfolding in_order
    down_back (l, later) (rest q h (then {after = after} r o k p) b) = (
      (node (record { slot = s; key = (m s).key; value = (m s).value }) l r, after),
      rest refl (λ i. record { key = (m s).key; value = (m s).value; left = q i; right = o i }, h, k) p (rw append_assoc b),
    )

    -- The node's link is at most n, and one more is to come than those that wait.
    pub must_be : (f : Tree K × List ℕ) → Rest (suc s) waiting count last f → (s < n) × (count + length waiting < size)
    unfolding in_order
    must_be (none, after) (rest q h p b) = absurd (omega (arith, q))
    must_be (node e l r, after) (rest q h p b) =
        grind (arith, b.within e.slot, listed_append, hit_same, length-append {A = ℕ}, waiting_few p)

    -- At no node, the next of those that wait is met, and its right subtree is asked for.
    pub up : (f : Tree K × List ℕ) → Rest 0 (suc s ∷ waiting) count last f
        → (g : Tree K × List ℕ) × Rest (m s).right waiting (suc count) (m s).key g
    unfolding in_order
    up (none, later) (rest q h (then {after = after} t o k p) b) = (
      (t, after),
      rest o k p (grind arith),
    )
    up (node e l r, later) (rest q h p b) = absurd (omega (arith, q))

    pub must_climb : (f : Tree K × List ℕ) → Rest 0 (suc s ∷ waiting) count last f → 0 < count → ed.order last (m s).key ≡ toward left
    unfolding in_order
    must_climb (none, later) (rest q h (then t o k p) b) j = (b.above j).0
    must_climb (node e l r, later) (rest q h p b) j = absurd (omega (arith, q))

    pub up_back : Lawful ed → s < n → (0 < count → ed.order last (m s).key ≡ toward left) → (f : Tree K × List ℕ)
        → Rest (m s).right waiting (suc count) (m s).key f → (g : Tree K × List ℕ) × Rest 0 (suc s ∷ waiting) count last g
    unfolding in_order
    up_back laws low climbs (t, after) (rest q h p b) =
        let ahead : Before ed (m s).key (pairs m (in_order t ++ after)) = b.above (omega arith) in
        let lower = λ (j : 0 < count). lies_before ed last _ (lies_on ed laws left last _ _ (climbs j) (before_lies ed _ _ ahead)) in (
          (none, s ∷ (in_order t ++ after)),
          rest refl tt (then t q h p) (grind (arith, hit_other)),
        )

  -- At no node, where none waits, all is met.
  module _ {count : ℕ} {last : K} where
    pub all_met : count ≡ size → (f : Tree K × List ℕ) × Rest 0 [] count last f
    unfolding in_order
    all_met e = (
      (none, []),
      rest refl tt nobody (grind arith),
    )

    pub must_be_all : (f : Tree K × List ℕ) → Rest 0 [] count last f → count ≡ size
    unfolding in_order
    must_be_all (none, later) (rest q h nobody b) = omega (arith, b.number)
    must_be_all (node e l r, later) (rest q h p b) = absurd (omega (arith, q))

-- What is asked at the root is whether a tree stands there.
module _ {K : Type 0} (ed : Edition K) (w : List ℕ) (n root size : ℕ) (last : K) where
  abbrev slots : ℕ → Slot K
  slots = slot_at ed w

  pub whole_of : (t : Tree K) → TreeStands ed w n root size t → (f : Tree K × List ℕ) × Rest ed slots n size root [] 0 last f
  whole_of t h = (
    (t, []),
    rest h.at h.nodes nobody
        (rw append-nil
        (grind (arith, in_order_times, in_order_size, in_order_entries slots t h.nodes))),
  )

  pub tree_of : Lawful ed → (f : Tree K × List ℕ) → Rest ed slots n size root [] 0 last f → (t : Tree K) × TreeStands ed w n root size t
  tree_of laws (t, later) (rest q h nobody c) =
      let b = rw append-nil at c in
      let counted : (s : ℕ) → times s t ≡ listed s (in_order t) = λ s. sym (in_order_times s t) in (
        t,
        grind (arith, in_order_size, in_order_entries slots t h, ascending_once ed laws slots (in_order t) b.ascending),
      )
