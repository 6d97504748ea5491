-- The splay as rules, one for each way that a step can go, for arguments by induction: the function obeys them, and
-- they give nothing else. Then what the splay keeps: the entries in order, and every slot.
use mathlib.Core.Bool.{Bool, true, false}
use mathlib.Core.List.{List, ◌++◌, append_assoc, append-nil}
use mathlib.Core.Path.{◌≡◌, refl, ◌∙◌}
use Prim.Native.Nat.{ℕ, zero, suc, ◌+◌, ◌*◌, ◌≤◌, ◌<◌}
use native.Mathlib.Omega.{arith}
use Rattle.rules.specs.Order.{Side, left, right, Order, equal, toward, is_toward, of_side}
use Rattle.rules.specs.Live.{Pair}
use Rattle.rules.specs.Tree.{Entry, Tree, none, node, fork, hang, entries, weigh, size}
use Rattle.rules.specs.Splay.{Gathered, Step, stop, go_on, Splayed, nothing, tick, join, link, rotate_or_link, assemble, go_by, look, turn, step, walk, splay}

module _ {K : Type 0} where
  -- A tree with a node.
  abbrev pub Real : Tree K → Type 0
  Real none = ⊥
  Real (node e l r) = Unit {0}

  pub fork_real : (s : Side) (e : Entry K) (near far : Tree K) → Real (fork s e near far)
  fork_real left e near far = tt
  fork_real right e near far = tt

  pub weigh_fork : (f : Entry K → ℕ) (s : Side) (e : Entry K) (near far : Tree K)
      → weigh f (fork s e near far) ≡ f e + (weigh f near + weigh f far)
  weigh_fork f left e near far = refl
  weigh_fork f right e near far = omega arith

  pub weigh_hang : (f : Entry K → ℕ) (s : Side) (t x : Tree K) → weigh f (hang s t x) ≡ weigh f t + weigh f x
  unfolding hang
  weigh_hang f s none x = omega arith
  weigh_hang f left (node e l r) x = omega (arith, weigh_hang f left l x)
  weigh_hang f right (node e l r) x = omega (arith, weigh_hang f right r x)

  pub entries_hang_left : (t x : Tree K) → entries (hang left t x) ≡ entries x ++ entries t
  unfolding hang entries
  entries_hang_left none x = simp append-nil
  entries_hang_left (node e l r) x = simp (entries_hang_left l x, append_assoc)

  pub entries_hang_right : (t x : Tree K) → entries (hang right t x) ≡ entries t ++ entries x
  unfolding hang entries
  entries_hang_right none x = refl
  entries_hang_right (node e l r) x = simp (entries_hang_right r x, append_assoc)

module _ {K : Type 0} (cmp : K → K → Order) (k : K) where
  pub data Splays : Tree K → Gathered K → Splayed K → Type 0 where
    equal_stop : (e : Entry K) (l r : Tree K) (g : Gathered K) → cmp k e.key ≡ equal
        → Splays (node e l r) g (assemble (node e l r) (tick g))
    no_child : (s : Side) (e : Entry K) (far : Tree K) (g : Gathered K) → cmp k e.key ≡ toward s
        → Splays (fork s e none far) g (assemble (fork s e none far) (tick g))
    rotate_stop : (s : Side) (e c : Entry K) (mid far : Tree K) (g : Gathered K) → cmp k e.key ≡ toward s → cmp k c.key ≡ toward s
        → Splays (fork s e (fork s c none mid) far) g (assemble (fork s c none (fork s e mid far)) (tick (tick g)))
    rotate_link : (s : Side) (e c : Entry K) (near mid far : Tree K) (g : Gathered K) (z : Splayed K) → cmp k e.key ≡ toward s
        → cmp k c.key ≡ toward s
        → Real near → Splays near (join s (fork s c none (fork s e mid far)) (tick (tick g))) z
        → Splays (fork s e (fork s c near mid) far) g z
    just_link : (s : Side) (e c : Entry K) (l r far : Tree K) (g : Gathered K) (z : Splayed K) → cmp k e.key ≡ toward s
        → is_toward s (cmp k c.key) ≡ false
        → Splays (node c l r) (join s (fork s e none far) (tick (tick g))) z
        → Splays (fork s e (node c l r) far) g z

  -- What a step's end is worth.
  abbrev Stepped : Tree K → Gathered K → Step K → Type 0
  Stepped t g (stop t' g') = Splays t g (assemble t' g')
  Stepped t g (go_on t' g') = Real t' × (size t' < size t) × ((z : Splayed K) → Splays t' g' z → Splays t g z)

  is_toward_true : (s : Side) (o : Order) → is_toward s o ≡ true → o ≡ toward s
  is_toward_true left (toward left) e = refl
  is_toward_true right (toward right) e = refl
  is_toward_true left (toward right) e = absurd (let z : ◌≡◌ {A = ℕ} 0 1 = cc in omega arith)
  is_toward_true right (toward left) e = absurd (let z : ◌≡◌ {A = ℕ} 0 1 = cc in omega arith)
  is_toward_true s equal e = absurd (let z : ◌≡◌ {A = ℕ} 0 1 = cc in omega arith)

  size_fork : (s : Side) (e : Entry K) (near far : Tree K) → size (fork s e near far) ≡ 1 + (size near + size far)
  size_fork s e near far = weigh_fork (λ e. 1) s e near far

  rotated : (s : Side) (e c : Entry K) (near mid far : Tree K) (g : Gathered K) → cmp k e.key ≡ toward s → cmp k c.key ≡ toward s
      → Stepped (fork s e (fork s c near mid) far) g (link s c near (fork s e mid far) (tick (tick g)))
  rotated s e c none mid far g p q = rotate_stop s e c mid far g p q
  rotated s e c (node n l r) mid far g p q = (
    tt,
    omega (arith, size_fork s e (fork s c (node n l r) mid) far, size_fork s c (node n l r) mid),
    λ z d. rotate_link s e c (node n l r) mid far g z p q tt d,
  )

  rotates_or_links : (b : Bool) (s : Side) (e c : Entry K) (l r far : Tree K) (g : Gathered K) → cmp k e.key ≡ toward s
      → is_toward s (cmp k c.key) ≡ b
      → Stepped (fork s e (node c l r) far) g (rotate_or_link b s e c (of_side s l r) (of_side s r l) far (tick (tick g)))
  rotates_or_links true left e c l r far g p q = rotated left e c l r far g p (is_toward_true left (cmp k c.key) q)
  rotates_or_links true right e c l r far g p q = rotated right e c r l far g p (is_toward_true right (cmp k c.key) q)
  rotates_or_links false left e c l r far g p q = (tt, omega arith, λ z d. just_link left e c l r far g z p q d)
  rotates_or_links false right e c l r far g p q = (tt, omega arith, λ z d. just_link right e c l r far g z p q d)

  looked : (s : Side) (e : Entry K) (near far : Tree K) (g : Gathered K) → cmp k e.key ≡ toward s
      → Stepped (fork s e near far) g (look cmp k s e near far (tick g))
  looked s e none far g p = no_child s e far g p
  looked s e (node c l r) far g p = rotates_or_links (is_toward s (cmp k c.key)) s e c l r far g p refl

  turned : (o : Order) (e : Entry K) (l r : Tree K) (g : Gathered K) → cmp k e.key ≡ o
      → Stepped (node e l r) g (turn cmp k o e l r (tick g))
  turned equal e l r g p = equal_stop e l r g p
  turned (toward left) e l r g p = looked left e l r g p
  turned (toward right) e l r g p = looked right e r l g p

  stepped : (t : Tree K) (g : Gathered K) → Real t → Stepped t g (step cmp k t g)
  stepped none g h = absurd h
  stepped (node e l r) g h = turned (cmp k e.key) e l r g refl

  -- The function obeys the rules.
  obeys : (n : ℕ) (t : Tree K) (g : Gathered K) → Real t → size t ≤ n → Splays t g (walk cmp k n t g)
  unfolding walk
  obeys zero none g h b = absurd h
  obeys zero (node e l r) g h b = absurd (omega arith)
  obeys (suc n) t g h b = by (step cmp k t g) (stepped t g h) (λ t' g' h' b'. obeys n t' g' h' b')
    where
      by : (u : Step K) → Stepped t g u → ((t' : Tree K) (g' : Gathered K) → Real t' → size t' ≤ n → Splays t' g' (walk cmp k n t' g'))
          → Splays t g (go_by (walk cmp k n) u)
      by (stop t' g') d rec = d
      by (go_on t' g') d rec = d.2 _ (rec t' g' d.0 (omega (arith, d.1)))

  pub splay_obeys : (t : Tree K) → Real t → Splays t nothing (splay cmp k t)
  unfolding splay
  splay_obeys t h = obeys (size t) t nothing h (omega arith)

  -- No second outcome fits the rules.
  determined : {t : Tree K} {g : Gathered K} {z : Splayed K} → Splays t g z → (n : ℕ) → size t ≤ n → z ≡ walk cmp k n t g
  unfolding walk
  determined (equal_stop e l r g p) zero h = absurd (omega arith)
  determined (equal_stop e l r g p) (suc n) h = rw p
  determined (no_child s e far g p) zero h = absurd (omega (arith, size_fork s e none far))
  determined (no_child left e far g p) (suc n) h = rw p
  determined (no_child right e far g p) (suc n) h = rw p
  determined (rotate_stop s e c mid far g p q) zero h = absurd (omega (arith, size_fork s e (fork s c none mid) far))
  determined (rotate_stop left e c mid far g p q) (suc n) h = rw (p, q)
  determined (rotate_stop right e c mid far g p q) (suc n) h = rw (p, q)
  determined (rotate_link s e c near mid far g z p q x d) zero h = absurd (omega (arith, size_fork s e (fork s c near mid) far))
  determined (rotate_link s e c none mid far g z p q x d) (suc n) h = absurd x
  determined (rotate_link left e c (node m l r) mid far g z p q x d) (suc n) h = rw (p, q) (determined d n (omega arith))
  determined (rotate_link right e c (node m l r) mid far g z p q x d) (suc n) h = rw (p, q) (determined d n (omega arith))
  determined (just_link s e c l r far g z p q d) zero h = absurd (omega (arith, size_fork s e (node c l r) far))
  determined (just_link left e c l r far g z p q d) (suc n) h = rw (p, q) (determined d n (omega arith))
  determined (just_link right e c l r far g z p q d) (suc n) h = rw (p, q) (determined d n (omega arith))

  pub splay_only : (t : Tree K) (z : Splayed K) → Splays t nothing z → z ≡ splay cmp k t
  unfolding splay
  splay_only t z d = determined d (size t) (omega arith)

  -- Whatever the rules give keeps the entries in order, and a sum over the nodes.
  abbrev around : Gathered K → List (Pair K) → List (Pair K)
  around g m = entries g.left_tree ++ (m ++ entries g.right_tree)

  keeps : {t : Tree K} {g : Gathered K} {z : Splayed K} → Splays t g z → entries z.tree ≡ around g (entries t)
  unfolding entries
  keeps (equal_stop e l r g p) = simp (entries_hang_left, entries_hang_right, append_assoc)
  keeps (no_child left e far g p) = simp (entries_hang_left, entries_hang_right, append_assoc)
  keeps (no_child right e far g p) = simp (entries_hang_left, entries_hang_right, append_assoc)
  keeps (rotate_stop left e c mid far g p q) = simp (entries_hang_left, entries_hang_right, append_assoc)
  keeps (rotate_stop right e c mid far g p q) = simp (entries_hang_left, entries_hang_right, append_assoc)
  keeps (rotate_link left e c near mid far g z p q x d) = keeps d ∙ simp (entries_hang_left, append_assoc)
  keeps (rotate_link right e c near mid far g z p q x d) = keeps d ∙ simp (entries_hang_right, append_assoc)
  keeps (just_link left e c l r far g z p q d) = keeps d ∙ simp (entries_hang_left, append_assoc)
  keeps (just_link right e c l r far g z p q d) = keeps d ∙ simp (entries_hang_right, append_assoc)

  pub splay_keeps : (t : Tree K) → entries (splay cmp k t).tree ≡ entries t
  unfolding splay walk entries
  splay_keeps none = refl
  splay_keeps (node e l r) = keeps (splay_obeys (node e l r) tt) ∙ append-nil (entries (node e l r))

  module _ (f : Entry K → ℕ) where
    abbrev weight : Gathered K → ℕ
    weight g = weigh f g.left_tree + weigh f g.right_tree

    weigh_join : (s : Side) (t : Tree K) (g : Gathered K) → weight (join s t g) ≡ weigh f t + weight g
    weigh_join left t g = omega (arith, weigh_hang f left g.right_tree t)
    weigh_join right t g = omega (arith, weigh_hang f right g.left_tree t)

    weigh_assemble : (t : Tree K) (g : Gathered K) → Real t → weigh f (assemble t g).tree ≡ weigh f t + weight g
    weigh_assemble none g h = absurd h
    weigh_assemble (node e l r) g h = omega (arith, weigh_hang f right g.left_tree l, weigh_hang f left g.right_tree r)

    weighs : {t : Tree K} {g : Gathered K} {z : Splayed K} → Splays t g z → weigh f z.tree ≡ weigh f t + weight g
    weighs (equal_stop e l r g p) = weigh_assemble (node e l r) (tick g) tt
    weighs (no_child s e far g p) = weigh_assemble (fork s e none far) (tick g) (fork_real s e none far)
    weighs (rotate_stop s e c mid far g p q) =
        omega (
          arith,
          weigh_assemble (fork s c none (fork s e mid far)) (tick (tick g)) (fork_real s c none (fork s e mid far)),
          weigh_fork f s c none (fork s e mid far),
          weigh_fork f s e mid far,
          weigh_fork f s e (fork s c none mid) far,
          weigh_fork f s c none mid,
        )
    weighs (rotate_link s e c near mid far g z p q x d) =
        omega (
          arith,
          weighs d,
          weigh_join s (fork s c none (fork s e mid far)) (tick (tick g)),
          weigh_fork f s c none (fork s e mid far),
          weigh_fork f s e mid far,
          weigh_fork f s e (fork s c near mid) far,
          weigh_fork f s c near mid,
        )
    weighs (just_link s e c l r far g z p q d) =
        omega (
          arith,
          weighs d,
          weigh_join s (fork s e none far) (tick (tick g)),
          weigh_fork f s e none far,
          weigh_fork f s e (node c l r) far,
        )

    pub splay_weighs : (t : Tree K) → weigh f (splay cmp k t).tree ≡ weigh f t
    unfolding splay walk
    splay_weighs none = refl
    splay_weighs (node e l r) = omega (arith, weighs (splay_obeys (node e l r) tt))

  pub splay_real : (t : Tree K) → Real t → Real (splay cmp k t).tree
  splay_real none h = absurd h
  splay_real (node e l r) h = by (splay cmp k (node e l r)).tree (splay_weighs (λ e. 1) (node e l r))
    where
      by : (t : Tree K) → size t ≡ size (node e l r) → Real t
      by none e = absurd (omega arith)
      by (node x a b) e = tt

  -- The last rule, with the child as its own children on the side s and on the other.
  pub link_fork : (s : Side) (e c : Entry K) (near mid far : Tree K) (g : Gathered K) (z : Splayed K) → cmp k e.key ≡ toward s
      → is_toward s (cmp k c.key) ≡ false
      → Splays (fork s c near mid) (join s (fork s e none far) (tick (tick g))) z → Splays (fork s e (fork s c near mid) far) g z
  link_fork left e c near mid far g z p q d = just_link left e c near mid far g z p q d
  link_fork right e c near mid far g z p q d = just_link right e c mid near far g z p q d

  -- No more than two comparisons for each node.
  few_counts : {t : Tree K} {g : Gathered K} {z : Splayed K} → Splays t g z → z.count ≤ g.count + 2 * size t
  few_counts (equal_stop e l r g p) = omega arith
  few_counts (no_child left e far g p) = omega arith
  few_counts (no_child right e far g p) = omega arith
  few_counts (rotate_stop left e c mid far g p q) = omega arith
  few_counts (rotate_stop right e c mid far g p q) = omega arith
  few_counts (rotate_link left e c near mid far g z p q x d) = omega (arith, few_counts d)
  few_counts (rotate_link right e c near mid far g z p q x d) = omega (arith, few_counts d)
  few_counts (just_link left e c l r far g z p q d) = omega (arith, few_counts d)
  few_counts (just_link right e c l r far g z p q d) = omega (arith, few_counts d)

  pub splay_count : (t : Tree K) → (splay cmp k t).count ≤ 2 * size t
  unfolding splay walk
  splay_count none = omega arith
  splay_count (node e l r) = omega (arith, few_counts (splay_obeys (node e l r) tt))
