-- What slots that hold a tree or a chain say: no second tree or chain, what stands in each slot, and no slot in both. And the tree that
-- is read off the slots from a link.
use mathlib.Core.List.{List, [], ◌∷◌}
use mathlib.Core.Logic.{inl, inr}
use mathlib.Core.Option.{none as nil, some}
use mathlib.Core.Path.{◌≡◌, refl, sym, ◌∙◌, ap}
use Prim.Native.Nat.{ℕ, zero, suc, ◌+◌, ◌≤◌, ◌<◌}
use native.Mathlib.Omega.{arith}
use lib.ListN.{length}
use borrow.Author.Tests.{eq-eqb, ne_eqb}
use Rattle.rules.specs.Edition.{Edition, most_slots}
use Rattle.rules.specs.Tree.{Entry, Tree, none, node, hit, size, times, link_to}
use Rattle.rules.specs.Arena.{Slot, first_link, link_after, listed, content, held, Holds, free_slot, Chained}
use Rattle.rules.proofs.Hit.{hit_same, hit_cases}
use Rattle.rules.proofs.Pigeons.{Same, met_below}

-- What a tree has in a slot.
module _ {K : Type 0} (s : ℕ) where
  pub held_here : (e : Entry K) (l r : Tree K) → s ≡ e.slot → held s (node e l r) ≡ some (content e l r)
  unfolding held
  held_here e l r p = rw (eq-eqb s e.slot p)

  pub held_left : (e : Entry K) (l r : Tree K) (c : Slot K) → (s ≡ e.slot → ⊥) → held s l ≡ some c → held s (node e l r) ≡ some c
  unfolding held
  held_left e l r c p q = rw (ne_eqb s e.slot p, q)

  pub held_right : (e : Entry K) (l r : Tree K) → (s ≡ e.slot → ⊥) → held s l ≡ nil → held s (node e l r) ≡ held s r
  unfolding held
  held_right e l r p q = rw (ne_eqb s e.slot p, q)

  pub held_nothing : (t : Tree K) → times s t ≡ 0 → held s t ≡ nil
  unfolding held
  held_nothing none h = refl
  held_nothing (node e l r) h =
      by (hit_cases s e.slot) (held_nothing l (omega arith)) (held_nothing r (omega arith))
    where
      by : Same s e.slot → held s l ≡ nil → held s r ≡ nil → held s (node e l r) ≡ nil
      by (inl (same, one)) p q = absurd (omega arith)
      by (inr (other, no_hit)) p q = held_right e l r other p ∙ q

-- The link that a chain has in a slot.
module _ (s : ℕ) where
  pub link_after_here : (x : ℕ) (c : List ℕ) → s ≡ x → link_after s (x ∷ c) ≡ first_link c
  unfolding link_after
  link_after_here x c p = rw (eq-eqb s x p)

  pub link_after_later : (x : ℕ) (c : List ℕ) → (s ≡ x → ⊥) → link_after s (x ∷ c) ≡ link_after s c
  unfolding link_after
  link_after_later x c p = rw (ne_eqb s x p)

-- The tree that hangs from a link, to a depth.
unfoldable pub tree_from : {K : Type 0} → ℕ → (ℕ → Slot K) → ℕ → Tree K
tree_from zero at x = none
tree_from (suc d) at zero = none
tree_from (suc d) at (suc s) =
    node (record { slot = s; key = (at s).key; value = (at s).value }) (tree_from d at (at s).left) (tree_from d at (at s).right)

-- The root's link is at most n where no slot from n on is met.
pub link_within : {K : Type 0} (n : ℕ) (t : Tree K) → ((s : ℕ) → n ≤ s → times s t ≡ 0) → link_to t ≤ n
link_within n none h = omega arith
link_within n (node e l r) h = met_below n e.slot _ (h e.slot)

pub first_within : (n : ℕ) (c : List ℕ) → ((s : ℕ) → n ≤ s → listed s c ≡ 0) → first_link c ≤ n
first_within n [] h = omega arith
first_within n (x ∷ c) h = met_below n x _ (h x)

module _ {K : Type 0} (at : ℕ → Slot K) where
  entry_same : (e f : Entry K) → e.slot ≡ f.slot → e.key ≡ f.key → e.value ≡ f.value → e ≡ f
  entry_same e f p q r i = record { slot = p i; key = q i; value = r i }

  -- A link and the slots determine the tree.
  pub holds_once : (t u : Tree K) → Holds at t → Holds at u → link_to t ≡ link_to u → t ≡ u
  holds_once none none h k p = refl
  holds_once none (node f a b) h k p = absurd (omega arith)
  holds_once (node e l r) none h k p = absurd (omega arith)
  holds_once (node e l r) (node f a b) h k p =
      let s : e.slot ≡ f.slot = omega arith in
      let c : content e l r ≡ content f a b = sym h.0 ∙ ap at s ∙ k.0 in
      let i : e ≡ f = entry_same e f s (ap (λ (x : Slot K). x.key) c) (ap (λ (x : Slot K). x.value) c) in
      let a' : l ≡ a = holds_once l a h.1 k.1 (ap (λ (x : Slot K). x.left) c) in
      let b' : r ≡ b = holds_once r b h.2 k.2 (ap (λ (x : Slot K). x.right) c) in
      cc

  -- A slot of the tree holds what the tree has in it.
  pub holds_held : (s : ℕ) (t : Tree K) → Holds at t → 1 ≤ times s t → held s t ≡ some (at s)
  holds_held s none h m = absurd (omega arith)
  holds_held s (node e l r) h m =
      by (hit_cases s e.slot) (times s l) refl (λ b. holds_held s l h.1 b) (λ b. holds_held s r h.2 b)
    where
      by : Same s e.slot → (n : ℕ) → times s l ≡ n → (1 ≤ times s l → held s l ≡ some (at s)) → (1 ≤ times s r → held s r ≡ some (at s))
          → held s (node e l r) ≡ some (at s)
      by (inl (same, one)) n p f g = held_here s e l r same ∙ ap some (sym (ap at same ∙ h.0))
      by (inr (other, no_hit)) zero p f g = held_right s e l r other (held_nothing s l p) ∙ g (omega arith)
      by (inr (other, no_hit)) (suc n) p f g = held_left s e l r (at s) other (f (omega arith))

  -- A slot of the tree holds a right link that is at most n.
  pub holds_right : (n s : ℕ) (t : Tree K) → Holds at t → ((x : ℕ) → n ≤ x → times x t ≡ 0) → 1 ≤ times s t → (at s).right ≤ n
  holds_right n s none h within m = absurd (omega arith)
  holds_right n s (node e l r) h within m =
      by (hit_cases s e.slot) (times s l) refl
      (λ b. holds_right n s l h.1 (λ x k. omega (arith, within x k)) b)
      (λ b. holds_right n s r h.2 (λ x k. omega (arith, within x k)) b)
    where
      by : Same s e.slot → (c : ℕ) → times s l ≡ c → (1 ≤ times s l → (at s).right ≤ n) → (1 ≤ times s r → (at s).right ≤ n)
          → (at s).right ≤ n
      by (inl (same, one)) c p f g = rw (same, h.0) (link_within n r (λ x k. omega (arith, within x k)))
      by (inr (other, no_hit)) zero p f g = g (omega arith)
      by (inr (other, no_hit)) (suc c) p f g = f (omega arith)

  -- Slots that are the same where the tree has nodes hold it too.
  pub holds_frame : (was : ℕ → Slot K) (t : Tree K) → ((s : ℕ) → 1 ≤ times s t → at s ≡ was s) → Holds was t → Holds at t
  holds_frame was none same h = tt
  holds_frame was (node e l r) same h = (
    same e.slot (omega (arith, hit_same e.slot)) ∙ h.0,
    holds_frame was l (λ s b. same s (omega arith)) h.1,
    holds_frame was r (λ s b. same s (omega arith)) h.2,
  )

  -- The tree that hangs from a tree's link is that tree.
  pub tree_from_holds : (d : ℕ) (t : Tree K) → Holds at t → size t ≤ d → tree_from d at (link_to t) ≡ t
  unfolding tree_from
  tree_from_holds zero none h b = refl
  tree_from_holds zero (node e l r) h b = absurd (omega arith)
  tree_from_holds (suc d) none h b = refl
  tree_from_holds (suc d) (node e l r) h b =
      rw (h.0, tree_from_holds d l h.1 (omega arith), tree_from_holds d r h.2 (omega arith))

module _ {K : Type 0} (ed : Edition K) (at : ℕ → Slot K) where
  -- Slots that are the same where the chain goes hold it too.
  pub chained_frame : (was : ℕ → Slot K) (c : List ℕ) → ((s : ℕ) → 1 ≤ listed s c → at s ≡ was s) → Chained ed was c → Chained ed at c
  chained_frame was [] same h = tt
  chained_frame was (x ∷ c) same h =
      (same x (omega (arith, hit_same x)) ∙ h.0, chained_frame was c (λ s b. same s (omega arith)) h.1)

  -- A first link and the slots determine the chain.
  pub chain_once : (a b : List ℕ) → Chained ed at a → Chained ed at b → first_link a ≡ first_link b → a ≡ b
  chain_once [] [] h k p = refl
  chain_once [] (y ∷ b) h k p = absurd (omega arith)
  chain_once (x ∷ a) [] h k p = absurd (omega arith)
  chain_once (x ∷ a) (y ∷ b) h k p =
      let s : x ≡ y = omega arith in
      let c : free_slot ed (first_link a) ≡ free_slot ed (first_link b) = sym h.0 ∙ ap at s ∙ k.0 in
      let q : a ≡ b = chain_once a b h.1 k.1 (ap (λ (x : Slot K). x.left) c) in
      cc

  -- What follows a slot of the chain is shorter than the chain.
  shorter : (x : ℕ) (b a : List ℕ) → Chained ed at (x ∷ b) → Chained ed at a → 1 ≤ listed x a → length b < length a
  shorter x b [] h k m = absurd (omega arith)
  shorter x b (y ∷ a) h k m = by (hit_cases x y) (λ c. shorter x b a h k.1 c)
    where
      by : Same x y → (1 ≤ listed x a → length b < length a) → length b < suc (length a)
      by (inl (same, one)) rec = omega (arith, ap length (chain_once (x ∷ b) (y ∷ a) h k (ap suc same)))
      by (inr (other, no_hit)) rec = omega (arith, rec (omega arith))

  -- No slot is on a chain twice.
  pub chained_once : (c : List ℕ) → Chained ed at c → (s : ℕ) → listed s c ≤ 1
  chained_once [] h s = omega arith
  chained_once (x ∷ c) h s = by (hit_cases s x) (listed s c) refl (chained_once c h.1 s)
    where
      by : Same s x → (n : ℕ) → listed s c ≡ n → listed s c ≤ 1 → hit s x + listed s c ≤ 1
      by (inl (same, one)) zero p b = omega arith
      by (inl (same, one)) (suc n) p b = absurd (omega (arith, shorter x c c h h.1 (rw (← same) (omega arith))))
      by (inr (other, no_hit)) n p b = omega arith

  -- A slot of the chain is free, with the link that the chain has in it.
  pub chained_after : (s : ℕ) (c : List ℕ) → Chained ed at c → 1 ≤ listed s c → at s ≡ free_slot ed (link_after s c)
  chained_after s [] h m = absurd (omega arith)
  chained_after s (x ∷ c) h m = by (hit_cases s x) (λ b. chained_after s c h.1 b)
    where
      by : Same s x → (1 ≤ listed s c → at s ≡ free_slot ed (link_after s c)) → at s ≡ free_slot ed (link_after s (x ∷ c))
      by (inl (same, one)) rec = rw (link_after_here s x c same, same) h.0
      by (inr (other, no_hit)) rec = rw (link_after_later s x c other) (rec (omega arith))

  -- A slot of the tree is not on the chain: a free slot's right word is no link.
  pub apart : (n : ℕ) (t : Tree K) (c : List ℕ) → n ≤ most_slots → Holds at t → ((s : ℕ) → n ≤ s → times s t ≡ 0) → Chained ed at c
      → (s : ℕ) → 1 ≤ times s t → listed s c ≡ 0
  apart n t c range h within k s m = by (listed s c) refl
    where
      by : (j : ℕ) → listed s c ≡ j → listed s c ≡ 0
      by zero p = p
      by (suc j) p =
          absurd (omega (arith, holds_right at n s t h within m, ap (λ (x : Slot K). x.right) (chained_after s c k (omega arith))))

  -- So no slot stands twice in the two together.
  pub once_in_all : (n : ℕ) (t : Tree K) (c : List ℕ) → n ≤ most_slots → Holds at t → ((s : ℕ) → n ≤ s → times s t ≡ 0)
      → ((s : ℕ) → times s t ≤ 1) → Chained ed at c → (s : ℕ) → times s t + listed s c ≤ 1
  once_in_all n t c range h within once k s = by (times s t) refl
    where
      by : (j : ℕ) → times s t ≡ j → times s t + listed s c ≤ 1
      by zero p = omega (arith, chained_once c k s)
      by (suc j) p = omega (arith, once s, apart n t c range h within k s (omega arith))
