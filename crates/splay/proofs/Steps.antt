-- The steps of the walk in any memory, for either side: from the loop's head to a stop, or over a link to the next turn.
use mathlib.Core.Bool.{false}
use mathlib.Core.List.{List, [], ◌∷◌}
use mathlib.Core.Path.{◌≡◌, refl, sym, ap, ◌∙◌, subst}
use Prim.Native.Nat.{ℕ, suc, ◌+◌, ◌*◌, ◌≤◌, ◌<◌}
use native.Mathlib.Omega.{arith}
use Rattle.rules.specs.Order.{Side, left, right, other, Order, equal, toward, is_toward}
use Rattle.rules.specs.Tree.{Entry, Tree, none, node, fork, times, size, link_to}
use Rattle.rules.specs.Splay.{Gathered, Splayed, nothing, tick, join, assemble}
use Rattle.rules.specs.Arena.{Slot, Holds}
use Rattle.rules.proofs.Hit.{hit_same}
use Rattle.rules.proofs.Splay.{Real, fork_real, weigh_fork, Splays, equal_stop, no_child, rotate_stop, rotate_link, link_fork}
use Rattle.rules.proofs.Held.{tree_from, tree_from_holds}
use Rattle.node.proofs.Memory.{on_key, fork_link, times_fork, held_fork, by_fork, no_link, real_link}
use Rattle.splay.proofs.Paths.{Frame, gather, gather_tick, gather_ticks, gather_join, Hung}
use Rattle.splay.proofs.Walk.{Shape, InTree, KeyRead, LinkRead, Rotated, counts, flip, end_in, shape_in, shape_key, shape_near, shape_link, shape_rotate}

-- The walk stands at a node with the child `near` on the side d.
pub record Place {K : Type 0} (d : Side) (t₀ : Tree K) (m₀ m : ℕ → Slot K) (x gtop gend otop oend : ℕ) (near : Tree K) : Type 0 where
  pub e : Entry K
  pub far : Tree K
  pub cg : List (Frame K)
  pub co : List (Frame K)
  pub shape : Shape d (other d) t₀ m₀ m x gtop gend otop oend (fork d e near far) cg co

module _ {K : Type 0} {t₀ : Tree K} {m₀ m : ℕ → Slot K} {x gtop gend otop oend : ℕ} {near : Tree K} where
  abbrev pub place_lr : (p : Place left t₀ m₀ m x gtop gend otop oend near) → Place right t₀ m₀ m x otop oend gtop gend p.far
  place_lr p = record { e = p.e; far = near; cg = p.co; co = p.cg; shape = flip p.shape }

  abbrev pub place_rl : (p : Place right t₀ m₀ m x gtop gend otop oend near) → Place left t₀ m₀ m x otop oend gtop gend p.far
  place_rl p = record { e = p.e; far = near; cg = p.co; co = p.cg; shape = flip p.shape }

  module _ {d : Side} (p : Place d t₀ m₀ m x gtop gend otop oend near) where
    pub place_in : InTree t₀ x
    place_in = shape_in p.e near p.far p.shape

    -- The tree read off the slots is the tree at the node.
    pub place_size : (D : ℕ) → size t₀ ≤ D → size (tree_from D m x) ≡ 1 + (size near + size p.far)
    place_size D h =
        rw p.shape.at
        (ap size (tree_from_holds m D (fork d p.e near p.far) p.shape.holds (omega (arith, p.shape.whole (λ e. 1)))) ∙ weigh_fork (λ e. 1) d p.e near p.far)

    -- The child on the side d.
    pub place_near : {y : ℕ} → LinkRead d m x y → y ≡ link_to near
    place_near = shape_near p.e near p.far p.shape

    pub end_there : 0 < gend → InTree t₀ gend
    end_there = end_in p.cg p.shape

module _ {K : Type 0} (cmp : K → K → Order) (key : K) where
  -- At the loop's head: whatever the rules give from here, they give for the first tree.
  pub record Walking (d : Side) (t₀ : Tree K) (m₀ m : ℕ → Slot K) (x gtop gend otop oend count : ℕ) (near : Tree K) : Type 0 where
    pub at : Place d t₀ m₀ m x gtop gend otop oend near
    pub goal : (z : Splayed K) → Splays cmp key (fork d at.e near at.far) (gather d at.cg at.co count) z → Splays cmp key t₀ nothing z
    pub bound : count + 2 * (1 + (size near + size at.far)) ≤ 2 * size t₀

  -- At the stop.
  pub record Stopped (d : Side) (t₀ : Tree K) (m₀ m : ℕ → Slot K) (x gtop gend otop oend count : ℕ) : Type 0 where
    pub near : Tree K
    pub at : Place d t₀ m₀ m x gtop gend otop oend near
    pub goal : Splays cmp key t₀ nothing (assemble (fork d at.e near at.far) (gather d at.cg at.co count))

  -- Before the link: the node has a child on the side d, which is the next node and smaller than `most`.
  pub record Linkable (d : Side) (t₀ : Tree K) (m₀ m : ℕ → Slot K) (x gtop gend otop oend count most : ℕ) : Type 0 where
    pub near : Tree K
    pub at : Place d t₀ m₀ m x gtop gend otop oend near
    pub real : Real near
    pub goal : (z : Splayed K) → Splays cmp key near (gather d (record { entry = at.e; far = at.far } ∷ at.cg) at.co count) z → Splays cmp key t₀ nothing z
    pub bound : count + 2 * size near ≤ 2 * size t₀
    pub less : size near < most

  module _ {t₀ : Tree K} {m₀ m : ℕ → Slot K} {x gtop gend otop oend count : ℕ} where
    pub walking_lr : {near : Tree K} (w : Walking left t₀ m₀ m x gtop gend otop oend count near) → Walking right t₀ m₀ m x otop oend gtop gend count w.at.far
    walking_lr w = record { at = place_lr w.at; goal = w.goal; bound = omega (arith, w.bound) }

    pub walking_rl : {near : Tree K} (w : Walking right t₀ m₀ m x gtop gend otop oend count near) → Walking left t₀ m₀ m x otop oend gtop gend count w.at.far
    walking_rl w = record { at = place_rl w.at; goal = w.goal; bound = omega (arith, w.bound) }

    pub stopped_rl : Stopped right t₀ m₀ m x gtop gend otop oend count → Stopped left t₀ m₀ m x otop oend gtop gend count
    stopped_rl w = record { near = w.at.far; at = place_rl w.at; goal = w.goal }

  -- The child of the node on the side of the key.
  pub record Child (d : Side) (t₀ : Tree K) (m₀ m : ℕ → Slot K) (x up gtop gend otop oend count : ℕ) : Type 0 where
    pub c : Entry K
    pub near : Tree K
    pub mid : Tree K
    pub is_up : up ≡ suc c.slot
    pub walk : Walking d t₀ m₀ m x gtop gend otop oend count (fork d c near mid)

  module _ {d : Side} {t₀ : Tree K} {m₀ m : ℕ → Slot K} {x up gtop gend otop oend count : ℕ} where
    pub child : {near : Tree K} → Walking d t₀ m₀ m x gtop gend otop oend count near → LinkRead d m x up → (up ≡ 0 → ⊥) → Child d t₀ m₀ m x up gtop gend otop oend count
    child {near} w rl p =
        by_fork d (λ n. up ≡ link_to n → Walking d t₀ m₀ m x gtop gend otop oend count n → Child d t₀ m₀ m x up gtop gend otop oend count)
        (λ q v. absurd (p q))
        (λ c n mid q v. record { c = c; near = n; mid = mid; is_up = q ∙ fork_link d c n mid; walk = v })
        near (place_near w.at rl) w

    pub child_in : Child d t₀ m₀ m x up gtop gend otop oend count → InTree t₀ up
    child_in s =
        let p = s.walk.at in
        record {
          slot = s.c.slot;
          is = s.is_up;
          one =
              omega (arith, counts p.shape s.c.slot, times_fork d p.e (fork d s.c s.near s.mid) p.far s.c.slot, times_fork d s.c s.near s.mid s.c.slot, hit_same s.c.slot);
        }

    -- There is none: stop.
    pub stop_none : {near : Tree K} {k : K} → Walking d t₀ m₀ m x gtop gend otop oend count near → KeyRead m x k → cmp key k ≡ toward d → LinkRead d m x up → up ≡ 0
        → Stopped d t₀ m₀ m x gtop gend otop oend (count + 1)
    stop_none {near} {k} w rk o rl z =
        by (subst (λ n. Walking d t₀ m₀ m x gtop gend otop oend count n) (no_link near (sym (place_near w.at rl) ∙ z)) w)
      where
        by : Walking d t₀ m₀ m x gtop gend otop oend count none → Stopped d t₀ m₀ m x gtop gend otop oend (count + 1)
        by v =
            let p = v.at in
            record {
              near = none;
              at = p;
              goal =
                  rw (← gather_tick d p.cg p.co count)
                  (v.goal _ (no_child d p.e p.far (gather d p.cg p.co count) (rw (shape_key p.e none p.far p.shape rk) at o)));
            }

  -- The key is the node's: stop.
  pub stop_equal : {t₀ : Tree K} {m₀ m : ℕ → Slot K} {x gtop gend otop oend count : ℕ} {near : Tree K} {k : K} → Walking left t₀ m₀ m x gtop gend otop oend count near
      → KeyRead m x k → cmp key k ≡ equal → Stopped left t₀ m₀ m x gtop gend otop oend (count + 1)
  stop_equal {t₀} {count = count} {near} w rk o =
      let p = w.at in
      record {
        near = near;
        at = p;
        goal =
            subst (λ (g : Gathered K). Splays cmp key t₀ nothing (assemble (node p.e near p.far) g)) (gather_tick left p.cg p.co count)
            (w.goal _ (equal_stop p.e near p.far (gather left p.cg p.co count) (rw (shape_key p.e near p.far p.shape rk) at o)));
      }

  module _ {d : Side} {t₀ : Tree K} {m₀ m : ℕ → Slot K} {x up gtop gend otop oend count : ℕ} (s : Child d t₀ m₀ m x up gtop gend otop oend count)
      {k ck : K} (rk : KeyRead m x k) (o : cmp key k ≡ toward d) (rc : KeyRead m up ck) where
    abbrev p : Place d t₀ m₀ m x gtop gend otop oend (fork d s.c s.near s.mid)
    p = s.walk.at

    node_order : cmp key p.e.key ≡ toward d
    node_order = rw (shape_key p.e (fork d s.c s.near s.mid) p.far p.shape rk) at o

    child_key : ck ≡ s.c.key
    child_key =
        rc s.c.slot s.is_up
        ∙ ap (λ (q : Slot K). q.key) (held_fork d m s.c s.near s.mid (held_fork d m p.e (fork d s.c s.near s.mid) p.far p.shape.holds).1).0
        ∙ on_key d s.c (link_to s.near) (link_to s.mid)

    joins : (n : Entry K) (f : Tree K) → join d (fork d n none f) (tick (tick (gather d p.cg p.co count))) ≡ gather d (record { entry = n; far = f } ∷ p.cg) p.co (count + 1 + 1)
    joins n f = rw (gather_ticks d p.cg p.co count) (gather_join d n f p.cg p.co (count + 1 + 1))

    -- The key does not lie on that side of the child: link the node.
    pub link_plain : is_toward d (cmp key ck) ≡ false → (D : ℕ) → size t₀ ≤ D → Linkable d t₀ m₀ m x gtop gend otop oend (count + 1 + 1) (size (tree_from D m x))
    link_plain q D few =
        record {
          near = fork d s.c s.near s.mid;
          at = p;
          real = fork_real d s.c s.near s.mid;
          goal = λ z g.
              s.walk.goal z
              (link_fork cmp key d p.e s.c s.near s.mid p.far (gather d p.cg p.co count) z node_order (rw child_key at q) (rw (joins p.e p.far) g));
          bound = omega (arith, s.walk.bound);
          less = omega (arith, place_size p D few);
        }

    module _ (q : cmp key ck ≡ toward d) {m' : ℕ → Slot K} (r : Rotated d x up m m') {y : ℕ} (rl : LinkRead d m' up y) where
      abbrev risen : Place d t₀ m₀ m' up gtop gend otop oend s.near
      risen =
          record {
            e = s.c;
            far = fork d p.e s.mid p.far;
            cg = p.cg;
            co = p.co;
            shape = shape_rotate p.e s.c s.near s.mid p.far p.shape s.is_up r;
          }

      again : cmp key s.c.key ≡ toward d
      again = rw child_key at q

      -- The child has risen, and has no child itself: stop.
      pub stop_risen : y ≡ 0 → Stopped d t₀ m₀ m' up gtop gend otop oend (count + 1 + 1)
      stop_risen z =
          by (subst (λ n. Walking d t₀ m₀ m x gtop gend otop oend count (fork d s.c n s.mid)) (no_link s.near (sym (place_near risen rl) ∙ z)) s.walk)
        where
          by : Walking d t₀ m₀ m x gtop gend otop oend count (fork d s.c none s.mid) → Stopped d t₀ m₀ m' up gtop gend otop oend (count + 1 + 1)
          by v =
              let n = v.at in
              let oe : cmp key n.e.key ≡ toward d = rw (shape_key n.e (fork d s.c none s.mid) n.far n.shape rk) at o in
              record {
                near = none;
                at =
                    record {
                      e = s.c;
                      far = fork d n.e s.mid n.far;
                      cg = n.cg;
                      co = n.co;
                      shape = shape_rotate n.e s.c none s.mid n.far n.shape s.is_up r;
                    };
                goal =
                    rw (← gather_ticks d n.cg n.co count)
                    (v.goal _ (rotate_stop d n.e s.c s.mid n.far (gather d n.cg n.co count) oe again));
              }

      -- It has one: link it.
      pub link_risen : (y ≡ 0 → ⊥) → (D : ℕ) → size t₀ ≤ D → Linkable d t₀ m₀ m' up gtop gend otop oend (count + 1 + 1) (size (tree_from D m x))
      link_risen n D few =
          let real : Real s.near = real_link s.near (omega (arith, place_near risen rl)) in
          record {
            near = s.near;
            at = risen;
            real = real;
            goal = λ z g.
                s.walk.goal z
                (rotate_link d p.e s.c s.near s.mid p.far (gather d p.cg p.co count) z node_order again real (rw (joins s.c (fork d p.e s.mid p.far)) g));
            bound = omega (arith, s.walk.bound, weigh_fork (λ e. 1) d s.c s.near s.mid);
            less = omega (arith, place_size p D few, weigh_fork (λ e. 1) d s.c s.near s.mid);
          }

  module _ {d : Side} {t₀ : Tree K} {m₀ m : ℕ → Slot K} {x gtop gend otop oend count most : ℕ} (p : Linkable d t₀ m₀ m x gtop gend otop oend count most) where
    abbrev longer : List (Frame K)
    longer = record { entry = p.at.e; far = p.at.far } ∷ p.at.cg

    -- The link, and on.
    module _ {m' : ℕ → Slot K} {r nx : ℕ} (u : Hung d gtop gend x r m m') (rl : LinkRead d m' x nx) where
      pub record Next : Type 0 where
        pub near : Tree K
        pub walk : Walking d t₀ m₀ m' nx r x otop oend count near
        pub less : (D : ℕ) → size t₀ ≤ D → size (tree_from D m' nx) < most

      pub advance : Next
      advance =
          by_fork d
          (λ t. Real t → Shape d (other d) t₀ m₀ m' nx r x otop oend t longer p.at.co
          → ((z : Splayed K) → Splays cmp key t (gather d longer p.at.co count) z → Splays cmp key t₀ nothing z)
          → count + 2 * size t ≤ 2 * size t₀ → size t < most → Next)
          (λ o. absurd o)
          (λ e near far o h g b l.
          let n : Place d t₀ m₀ m' nx r x otop oend near = record { e = e; far = far; cg = longer; co = p.at.co; shape = h } in
          let one = weigh_fork (λ e. 1) d e near far in
          record { near = near; walk = record { at = n; goal = g; bound = omega (arith, one) }; less = λ D few. omega (arith, one, place_size n D few) })
          p.near p.real (shape_link p.at.e p.near p.at.far p.at.shape u rl) p.goal p.bound p.less

  -- The start.
  pub begin : {m : ℕ → Slot K} {x : ℕ} (e : Entry K) (l r : Tree K) → x ≡ suc e.slot → Holds m (node e l r) → ((z : ℕ) → times z (node e l r) ≤ 1)
      → Walking left (node e l r) m m x 0 0 0 0 0 l
  begin e l r at holds once =
      record {
        at =
            record {
              e = e;
              far = r;
              cg = [];
              co = [];
              shape =
                  record {
                    at = at;
                    holds = holds;
                    near = record { old = 0; holds = tt; gap_at = refl; top_at = refl };
                    far = record { old = 0; holds = tt; gap_at = refl; top_at = refl };
                    whole = λ f. omega arith;
                    once = once;
                    same = λ s z. refl;
                  };
            };
        goal = λ z g. g;
        bound = omega arith;
      }
