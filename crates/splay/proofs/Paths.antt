-- A tree with a gap at its end on one side, from the gap up: the left tree and the right tree while they are built.
use mathlib.Core.List.{List, [], ◌∷◌}
use mathlib.Core.Path.{◌≡◌, refl, ap, ◌∙◌}
use Prim.Native.Nat.{ℕ, suc, ◌+◌, ◌≤◌}
use native.Mathlib.Numerals.{add-one}
use native.Mathlib.Omega.{arith}
use Rattle.rules.specs.Order.{Side, left, right}
use Rattle.rules.specs.Tree.{Entry, Tree, none, fork, hang, hit, weigh, link_to}
use Rattle.rules.specs.Splay.{Gathered, tick, join}
use Rattle.rules.specs.Arena.{Slot, Holds}
use Rattle.rules.proofs.Hit.{hit_same}
use Rattle.rules.proofs.Splay.{weigh_fork}
use Rattle.node.proofs.Memory.{on, fork_link, fork_held, Same, same_more, holds_same, Relinked, relinked_same, relinked_near}

-- A node on the way up from the gap, with its closed child.
pub record Frame (K : Type 0) : Type 0 where
  pub entry : Entry K
  pub far : Tree K

module _ {K : Type 0} where
  -- The link whose word is the gap, or 0 where the whole tree is.
  abbrev pub gap : List (Frame K) → ℕ
  gap [] = 0
  gap (f ∷ c) = suc f.entry.slot

  -- Where the whole stands, with the link x in the gap.
  abbrev pub top_link : List (Frame K) → ℕ → ℕ
  top_link [] x = x
  top_link (f ∷ c) x = top_link c (suc f.entry.slot)

  abbrev pub plug : Side → List (Frame K) → Tree K → Tree K
  plug d [] t = t
  plug d (f ∷ c) t = plug d c (fork d f.entry t f.far)

  abbrev pub weigh_path : (Entry K → ℕ) → List (Frame K) → ℕ
  weigh_path g [] = 0
  weigh_path g (f ∷ c) = g f.entry + (weigh g f.far + weigh_path g c)

  abbrev pub times_path : ℕ → List (Frame K) → ℕ
  times_path z c = weigh_path (λ e. hit z e.slot) c

  -- The slots hold the path, with the link x in the gap.
  abbrev pub HoldsPath : Side → (ℕ → Slot K) → List (Frame K) → ℕ → Type 0
  HoldsPath d m [] x = Unit {0}
  HoldsPath d m (f ∷ c) x =
      (m f.entry.slot ≡ on d f.entry x (link_to f.far)) × Holds m f.far × HoldsPath d m c (suc f.entry.slot)

  pub path_same : (d : Side) {f : ℕ → ℕ} {m m' : ℕ → Slot K} → Same f m m' → (c : List (Frame K)) (x : ℕ) → ((z : ℕ) → 1 ≤ times_path z c → f z ≡ 0)
      → HoldsPath d m c x → HoldsPath d m' c x
  path_same d p [] x q h = tt
  path_same d p (f ∷ c) x q h = (
    p f.entry.slot (q f.entry.slot (omega (arith, hit_same f.entry.slot))) ∙ h.0,
    holds_same p f.far (λ z e. q z (omega arith)) h.1,
    path_same d p c (suc f.entry.slot) (λ z e. q z (omega arith)) h.2,
  )

  pub plug_holds : (d : Side) (m : ℕ → Slot K) (c : List (Frame K)) (t : Tree K) → HoldsPath d m c (link_to t) → Holds m t → Holds m (plug d c t)
  plug_holds d m [] t h q = q
  plug_holds d m (f ∷ c) t h q =
      plug_holds d m c (fork d f.entry t f.far) (rw fork_link h.2) (fork_held d m f.entry t f.far h.0 q h.1)

  pub plug_link : (d : Side) (c : List (Frame K)) (t : Tree K) → link_to (plug d c t) ≡ top_link c (link_to t)
  plug_link d [] t = refl
  plug_link d (f ∷ c) t = plug_link d c (fork d f.entry t f.far) ∙ ap (top_link c) (fork_link d f.entry t f.far)

  pub plug_weigh : (g : Entry K → ℕ) (d : Side) (c : List (Frame K)) (t : Tree K) → weigh g (plug d c t) ≡ weigh g t + weigh_path g c
  plug_weigh g d [] t = omega arith
  plug_weigh g d (f ∷ c) t = omega (arith, plug_weigh g d c (fork d f.entry t f.far), weigh_fork g d f.entry t f.far)

  hang_fork : (d : Side) (e : Entry K) (t y x : Tree K) → hang d (fork d e t y) x ≡ fork d e (hang d t x) y
  unfolding hang
  hang_fork left e t y x = refl
  hang_fork right e t y x = refl

  -- What is hung at the end goes into the gap.
  pub hang_plug : (d : Side) (c : List (Frame K)) (t x : Tree K) → hang d (plug d c t) x ≡ plug d c (hang d t x)
  hang_plug d [] t x = refl
  hang_plug d (f ∷ c) t x = hang_plug d c (fork d f.entry t f.far) x ∙ ap (plug d c) (hang_fork d f.entry t f.far x)

  hang_none : (d : Side) (x : Tree K) → hang d none x ≡ x
  unfolding hang
  hang_none left x = refl
  hang_none right x = refl

  pub hang_gap : (d : Side) (c : List (Frame K)) (x : Tree K) → hang d (plug d c none) x ≡ plug d c x
  hang_gap d c x = hang_plug d c none x ∙ ap (plug d c) (hang_none d x)

  -- The trees gathered while the walk goes to the side d: the one that it joins, and the other.
  abbrev pub gather : Side → List (Frame K) → List (Frame K) → ℕ → Gathered K
  gather left g o n = record { left_tree = plug right o none; right_tree = plug left g none; count = n }
  gather right g o n = record { left_tree = plug right g none; right_tree = plug left o none; count = n }

  pub gather_tick : (d : Side) (g o : List (Frame K)) (n : ℕ) → tick (gather d g o n) ≡ gather d g o (n + 1)
  gather_tick left g o n = rw add-one
  gather_tick right g o n = rw add-one

  pub gather_ticks : (d : Side) (g o : List (Frame K)) (n : ℕ) → tick (tick (gather d g o n)) ≡ gather d g o (n + 1 + 1)
  gather_ticks d g o n = ap tick (gather_tick d g o n) ∙ gather_tick d g o (n + 1)

  pub gather_join : (d : Side) (e : Entry K) (far : Tree K) (g o : List (Frame K)) (n : ℕ)
      → join d (fork d e none far) (gather d g o n) ≡ gather d (record { entry = e; far = far } ∷ g) o n
  gather_join left e far g o n = rw (hang_gap left g (fork left e none far))
  gather_join right e far g o n = rw (hang_gap right g (fork right e none far))

  -- The path stands in the slots, whatever its gap holds: its top and the link whose word is the gap.
  pub record Built (d : Side) (m : ℕ → Slot K) (c : List (Frame K)) (top end : ℕ) : Type 0 where
    pub old : ℕ
    pub holds : HoldsPath d m c old
    pub gap_at : end ≡ gap c
    pub top_at : top ≡ top_link c 0

  pub built_same : {d : Side} {f : ℕ → ℕ} {m m' : ℕ → Slot K} {c : List (Frame K)} {top end : ℕ} → Same f m m' → ((z : ℕ) → 1 ≤ times_path z c → f z ≡ 0)
      → Built d m c top end → Built d m' c top end
  built_same {d} {c = c} p q b =
      record { old = b.old; holds = path_same d p c b.old q b.holds; gap_at = b.gap_at; top_at = b.top_at }

  -- What hanging the link x into the gap of a tree does: r is the tree's top afterwards.
  pub record Hung (d : Side) (top end x r : ℕ) (m m' : ℕ → Slot K) : Type 0 where
    pub alone : end ≡ 0 → ((i : ℕ) → m' i ≡ m i) × (r ≡ x)
    pub joined : (s : ℕ) → end ≡ suc s → Relinked d s x m m' × (r ≡ top)

  pub record Filled (d : Side) (c : List (Frame K)) (m m' : ℕ → Slot K) (x r : ℕ) : Type 0 where
    pub holds : HoldsPath d m' c x
    pub at : r ≡ top_link c x
    pub same : Same (λ z. times_path z c) m m'

  pub fill : {d : Side} {m m' : ℕ → Slot K} {top end x r : ℕ} (c : List (Frame K)) → Built d m c top end → ((z : ℕ) → times_path z c ≤ 1)
      → Hung d top end x r m m' → Filled d c m m' x r
  fill [] b once u = let (same, at) = u.alone b.gap_at in record { holds = tt; at = at; same = λ s z. same s }
  fill {d} (f ∷ c) b once u =
      let (q, at) = u.joined f.entry.slot b.gap_at in
      let (here, far, up) = b.holds in
      record {
        holds = (
          relinked_near f.entry _ _ q here,
          holds_same (relinked_same q) f.far (λ z o. omega (arith, once z)) far,
          path_same d (relinked_same q) c _ (λ z o. omega (arith, once z)) up,
        );
        at = at ∙ b.top_at;
        same = same_more (λ z o. omega arith) (relinked_same q);
      }
