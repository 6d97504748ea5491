-- Slots that hold trees, in any memory from slot numbers to what the slots hold: one link stored, and what it leaves alone. Each law is
-- said once for both sides.
use mathlib.Core.Path.{◌≡◌, refl, ap, ◌∙◌}
use Prim.Native.Nat.{ℕ, suc, ◌+◌, ◌≤◌, ◌<◌}
use native.Mathlib.Omega.{arith}
use Rattle.rules.specs.Order.{Side, left, right, other, of_side}
use Rattle.rules.specs.Tree.{Entry, Tree, none, node, fork, hit, times, link_to}
use Rattle.rules.specs.Arena.{Slot, Holds}
use Rattle.rules.proofs.Hit.{hit_same, hit_ne}
use Rattle.rules.proofs.Splay.{Real, weigh_fork}

module _ {K : Type 0} where
  -- What a node's slot holds, by the links to its child on the side d and to the other.
  abbrev pub on : Side → Entry K → ℕ → ℕ → Slot K
  on left e x y = record { key = e.key; value = e.value; left = x; right = y }
  on right e x y = record { key = e.key; value = e.value; left = y; right = x }

  abbrev pub link_on : Side → Slot K → ℕ
  link_on d c = of_side d c.left c.right

  abbrev pub with_link : Side → ℕ → Slot K → Slot K
  with_link left x c = record { key = c.key; value = c.value; left = x; right = c.right }
  with_link right x c = record { key = c.key; value = c.value; left = c.left; right = x }

  pub on_key : (d : Side) (e : Entry K) (x y : ℕ) → (on d e x y).key ≡ e.key
  on_key left e x y = refl
  on_key right e x y = refl

  pub on_value : (d : Side) (e : Entry K) (x y : ℕ) → (on d e x y).value ≡ e.value
  on_value left e x y = refl
  on_value right e x y = refl

  pub on_near : (d : Side) (e : Entry K) (x y : ℕ) → link_on d (on d e x y) ≡ x
  on_near left e x y = refl
  on_near right e x y = refl

  pub on_far : (d : Side) (e : Entry K) (x y : ℕ) → link_on (other d) (on d e x y) ≡ y
  on_far left e x y = refl
  on_far right e x y = refl

  pub on_put_near : (d : Side) (e : Entry K) (x y v : ℕ) → with_link d v (on d e x y) ≡ on d e v y
  on_put_near left e x y v = refl
  on_put_near right e x y v = refl

  pub on_put_far : (d : Side) (e : Entry K) (x y v : ℕ) → with_link (other d) v (on d e x y) ≡ on d e x v
  on_put_far left e x y v = refl
  on_put_far right e x y v = refl

  pub fork_link : (d : Side) (e : Entry K) (x y : Tree K) → link_to (fork d e x y) ≡ suc e.slot
  fork_link left e x y = refl
  fork_link right e x y = refl

  pub times_fork : (d : Side) (e : Entry K) (x y : Tree K) (z : ℕ) → times z (fork d e x y) ≡ hit z e.slot + (times z x + times z y)
  times_fork d e x y z = weigh_fork (λ e. hit z e.slot) d e x y

  -- A node and its two subtrees, held.
  pub fork_held : (d : Side) (m : ℕ → Slot K) (e : Entry K) (x y : Tree K) → m e.slot ≡ on d e (link_to x) (link_to y)
      → Holds m x → Holds m y → Holds m (fork d e x y)
  fork_held left m e x y p h k = (p, h, k)
  fork_held right m e x y p h k = (p, k, h)

  pub held_fork : (d : Side) (m : ℕ → Slot K) (e : Entry K) (x y : Tree K) → Holds m (fork d e x y)
      → (m e.slot ≡ on d e (link_to x) (link_to y)) × Holds m x × Holds m y
  held_fork left m e x y h = h
  held_fork right m e x y h = (h.0, h.2, h.1)

  -- A tree, as its root's child on the side d and the other.
  pub by_fork {ℓ} : (d : Side) (P : Tree K → Type ℓ) → P none → ((e : Entry K) (x y : Tree K) → P (fork d e x y)) → (t : Tree K) → P t
  by_fork left P p q none = p
  by_fork left P p q (node e l r) = q e l r
  by_fork right P p q none = p
  by_fork right P p q (node e l r) = q e r l

  -- A tree whose link is 0 is empty.
  pub no_link : (t : Tree K) → link_to t ≡ 0 → t ≡ none
  no_link none h = refl
  no_link (node e l r) h = absurd (omega arith)

  -- A tree whose link is not 0 has a node.
  pub real_link : (t : Tree K) → 0 < link_to t → Real t
  real_link none h = absurd (omega arith)
  real_link (node e l r) h = tt

  -- Only slots s with f s above 0 may have changed.
  abbrev pub Same : (ℕ → ℕ) → (ℕ → Slot K) → (ℕ → Slot K) → Type 0
  Same f m m' = (s : ℕ) → f s ≡ 0 → m' s ≡ m s

  pub same_trans : {f : ℕ → ℕ} {a b c : ℕ → Slot K} → Same f a b → Same f b c → Same f a c
  same_trans p q s z = q s z ∙ p s z

  pub same_more : {f g : ℕ → ℕ} {a b : ℕ → Slot K} → ((s : ℕ) → g s ≡ 0 → f s ≡ 0) → Same f a b → Same g a b
  same_more h p s z = p s (h s z)

  pub holds_same : {f : ℕ → ℕ} {m m' : ℕ → Slot K} → Same f m m' → (t : Tree K) → ((s : ℕ) → 1 ≤ times s t → f s ≡ 0) → Holds m t → Holds m' t
  holds_same p none z h = tt
  holds_same p (node e l r) z h = (
    p e.slot (z e.slot (omega (arith, hit_same e.slot))) ∙ h.0,
    holds_same p l (λ s q. z s (omega arith)) h.1,
    holds_same p r (λ s q. z s (omega arith)) h.2,
  )

  -- The link on the side d of the slot s becomes v, and nothing else changes.
  pub record Relinked (d : Side) (s v : ℕ) (m m' : ℕ → Slot K) : Type 0 where
    pub here : m' s ≡ with_link d v (m s)
    pub elsewhere : (i : ℕ) → (i ≡ s → ⊥) → m' i ≡ m i

  pub relinked_same : {d : Side} {s v : ℕ} {m m' : ℕ → Slot K} → Relinked d s v m m' → Same (λ z. hit z s) m m'
  relinked_same {s = s} r i z = r.elsewhere i (hit_ne i s z)

  pub relinked_near : {d : Side} {s v : ℕ} {m m' : ℕ → Slot K} (e : Entry K) (x y : ℕ) → Relinked d s v m m' → m s ≡ on d e x y → m' s ≡ on d e v y
  relinked_near {d} {s} {v} e x y r h = r.here ∙ ap (with_link d v) h ∙ on_put_near d e x y v

  pub relinked_far : (d : Side) {s v : ℕ} {m m' : ℕ → Slot K} (e : Entry K) (x y : ℕ) → Relinked (other d) s v m m' → m s ≡ on d e x y → m' s ≡ on d e x v
  relinked_far d {s} {v} e x y r h = r.here ∙ ap (with_link (other d) v) h ∙ on_put_far d e x y v

  -- The child c of e on the side d rises.
  module _ (d : Side) (e c : Entry K) (near mid far : Tree K) {m m₁ m₂ : ℕ → Slot K}
      (low : Relinked d e.slot (link_to mid) m m₁) (high : Relinked (other d) c.slot (suc e.slot) m₁ m₂)
      (held : Holds m (fork d e (fork d c near mid) far)) (once : (z : ℕ) → times z (fork d e (fork d c near mid) far) ≤ 1) where
    counted : (z : ℕ) → times z (fork d e (fork d c near mid) far) ≡ hit z e.slot + ((hit z c.slot + (times z near + times z mid)) + times z far)
    counted z = omega (arith, times_fork d e (fork d c near mid) far z, times_fork d c near mid z)

    pub rotate_same : Same (λ z. hit z e.slot + hit z c.slot) m m₂
    rotate_same = same_trans (same_more (λ z q. omega arith) (relinked_same low)) (same_more (λ z q. omega arith) (relinked_same high))

    pub rotate_holds : Holds m₂ (fork d c near (fork d e mid far))
    rotate_holds =
        let (me, hc, hfar) = held_fork d m e (fork d c near mid) far held in
        let (mc, hnear, hmid) = held_fork d m c near mid hc in
        let one : (z : ℕ) → hit z e.slot + ((hit z c.slot + (times z near + times z mid)) + times z far) ≤ 1
        = λ z. omega (arith, counted z, once z) in
        let me₁ = relinked_near e _ _ low me in
        let mc₁ = relinked_same low c.slot (omega (arith, one c.slot, hit_same c.slot)) ∙ mc in
        let mc₂ = relinked_far d c _ _ high mc₁ in
        let me₂ = relinked_same high e.slot (omega (arith, one e.slot, hit_same e.slot)) ∙ me₁ in
        fork_held d m₂ c near (fork d e mid far) (rw fork_link mc₂)
        (holds_same rotate_same near (λ z q. omega (arith, one z)) hnear)
        (fork_held d m₂ e mid far me₂
        (holds_same rotate_same mid (λ z q. omega (arith, one z)) hmid)
        (holds_same rotate_same far (λ z q. omega (arith, one z)) hfar))
