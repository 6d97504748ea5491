-- What stands at the root after a splay, what hanging the right subtree on the splayed left one gives, and where there is room for a new
-- key: each said once, for the commands that splay.
use mathlib.Core.Bool.{Bool, true, false}
use mathlib.Core.List.{List, [], ◌∷◌, ◌++◌, append_assoc}
use mathlib.Core.Path.{◌≡◌, refl, sym}
use Prim.Native.Nat.{ℕ, ◌+◌, ◌≤◌}
use native.Mathlib.Omega.{arith}
use lib.Dec.{eqb}
use lib.ListN.{length, length-append}
use borrow.Author.Tests.{eqb-false}
use Rattle.rules.specs.Order.{left, right, Order, choose}
use Rattle.rules.specs.Edition.{Edition}
use Rattle.rules.specs.Live.{Ascending}
use Rattle.rules.specs.Tree.{Entry, Tree, none, node, pair_of, entries, weigh, size}
use Rattle.rules.specs.Splay.{walk, splay}
use Rattle.rules.specs.Perform.{State, Met, nobody, met, Room, full, in_slot, first_of, room, hung_on, root_met, bring}
use Rattle.rules.proofs.Order.{Lawful}
use Rattle.rules.proofs.Splay.{Real, splay_keeps, splay_weighs, splay_real}
use Rattle.rules.proofs.Ascending.{lies_each, lies_once, apart}
use Rattle.rules.proofs.Parted.{Aside, Parted, splay_parted}

module _ {K : Type 0} where
  pub entries_length : (t : Tree K) → length (entries t) ≡ size t
  unfolding entries
  entries_length none = refl
  entries_length (node e l r) =
      omega (arith, length-append (entries l) (pair_of e ∷ entries r), entries_length l, entries_length r)

  -- The room of a state: none where size is N, otherwise the chain's first slot.
  pub data Roomed (st : State K) : Room → Type 0 where
    no_slot : eqb (size st.tree) st.slots ≡ true → Roomed st full
    a_slot : (x : ℕ) (more : List ℕ) → eqb (size st.tree) st.slots ≡ false → st.free ≡ x ∷ more
        → Roomed st (in_slot x more)

  pub rooms : (st : State K) → size st.tree ≤ st.slots → st.slots ≤ size st.tree + length st.free → Roomed st (room st)
  unfolding room
  rooms st b h = by (eqb (size st.tree) st.slots) refl st.free refl
    where
      by : (b : Bool) → eqb (size st.tree) st.slots ≡ b → (l : List ℕ) → st.free ≡ l
          → Roomed st (choose b full (first_of l))
      by true e l q = no_slot e
      by false e [] q =
          let z : length st.free ≡ 0 = rw q in absurd (eqb-false (size st.tree) st.slots e (omega arith))
      by false e (x ∷ more) q = a_slot x more e q

module _ {K : Type 0} (ed : Edition K) where
  -- The tree t splayed with k has the root e with the children l and r.
  pub record Root (k : K) (t : Tree K) (e : Entry K) (l r : Tree K) : Type 0 where
    pub same_entries : entries t ≡ entries l ++ (pair_of e ∷ entries r)
    pub same_weight : (f : Entry K → ℕ) → weigh f t ≡ f e + (weigh f l + weigh f r)
    pub lefts : Aside ed right k l
    pub rights : Aside ed left k r
    pub ascends : Ascending ed (entries l)

  -- What `bring` gives of a tree.
  pub data Brought (k : K) (t : Tree K) : Met K → Type 0 where
    no_root : t ≡ none → Brought k t nobody
    a_root : (o : Order) (e : Entry K) (l r : Tree K) (n : ℕ) → ed.order k e.key ≡ o → Root k t e l r
        → Brought k t (met o e l r n)

  module _ (laws : Lawful ed) (k : K) where
    pub brings : (t : Tree K) → Ascending ed (entries t) → Brought k t (bring ed k t)
    unfolding bring splay walk entries
    brings none h = no_root refl
    brings (node x a b) h =
        by (splay ed.order k t).tree (splay_real ed.order k t tt) (splay_parted ed laws k t h) (splay_keeps ed.order k t)
        (λ f. splay_weighs ed.order k f t)
      where
        t : Tree K
        t = node x a b

        by : (z : Tree K) → Real z → Parted ed k z → entries z ≡ entries t → ((f : Entry K → ℕ) → weigh f z ≡ weigh f t)
            → Brought k t (root_met ed k z (splay ed.order k t).count)
        by none u p q w = absurd u
        by (node e l r) u p q w =
            a_root (ed.order k e.key) e l r _ refl (record {
              same_entries = sym q;
              same_weight = λ f. sym (w f);
              lefts = p.0;
              rights = p.1;
              ascends = (apart ed laws (entries l) (pair_of e) (entries r) (rw q h)).0;
            })

    -- Where the key lies right of all of l, the root of l splayed has no right child, and hanging r there loses nothing.
    pub hung : (l r : Tree K) → Aside ed right k l → Ascending ed (entries l)
        → (entries (hung_on (splay ed.order k l).tree r) ≡ entries l ++ entries r)
        × ((f : Entry K → ℕ) → weigh f (hung_on (splay ed.order k l).tree r) ≡ weigh f l + weigh f r)
    unfolding entries
    hung l r h a =
        by (splay ed.order k l).tree (splay_parted ed laws k l a) (splay_keeps ed.order k l) (λ f. splay_weighs ed.order k f l)
      where
        by : (z : Tree K) → Parted ed k z → entries z ≡ entries l → ((f : Entry K → ℕ) → weigh f z ≡ weigh f l)
            → (entries (hung_on z r) ≡ entries l ++ entries r) × ((f : Entry K → ℕ) → weigh f (hung_on z r) ≡ weigh f l + weigh f r)
        by none p q w = (rw (← q), λ f. omega (arith, w f))
        by (node e x none) p q w = (rw (← q) (simp append_assoc), λ f. omega (arith, w f))
        by (node e x (node c y z)) p q w =
            let m = (lies_each ed right k (entries x) (pair_of e ∷ entries (node c y z)) (rw q h)).1 in
            absurd (lies_once ed k (entries y) (entries z) (pair_of c) p.1 m.1)
