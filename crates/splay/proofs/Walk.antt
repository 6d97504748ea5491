-- The walk of the splay in any memory, for either side: what the slots hold at the node, and what a rotation and a link make of it.
use mathlib.Core.List.{List, [], ◌∷◌}
use mathlib.Core.Path.{◌≡◌, sym, ap, ◌∙◌}
use Prim.Native.Nat.{ℕ, suc, ◌+◌, ◌≤◌, ◌<◌}
use native.Mathlib.Omega.{arith}
use Rattle.rules.specs.Order.{Side, left, right, other}
use Rattle.rules.specs.Tree.{Entry, Tree, fork, hit, times, weigh, link_to}
use Rattle.rules.specs.Arena.{Slot, Holds}
use Rattle.rules.proofs.Hit.{hit_same}
use Rattle.rules.proofs.Splay.{weigh_fork}
use Rattle.node.proofs.Memory.{on, link_on, on_key, on_near, on_far, fork_link, times_fork, held_fork, Same, same_trans, same_more, holds_same, Relinked, rotate_same, rotate_holds}
use Rattle.splay.proofs.Paths.{Frame, top_link, weigh_path, times_path, Built, built_same, Hung, fill}

module _ {K : Type 0} where
  -- What the slots hold on the way: the tree t at the link x, and the two trees under construction, with their tops and ends. The one that
  -- is joined on the side d is given by g, the other, joined on the side u, by o.
  pub record Shape (d u : Side) (t₀ : Tree K) (m₀ m : ℕ → Slot K) (x gtop gend otop oend : ℕ) (t : Tree K) (cg co : List (Frame K)) : Type 0 where
    pub at : x ≡ link_to t
    pub holds : Holds m t
    pub near : Built d m cg gtop gend
    pub far : Built u m co otop oend
    pub whole : (f : Entry K → ℕ) → weigh f t + (weigh_path f cg + weigh_path f co) ≡ weigh f t₀
    pub once : (z : ℕ) → times z t₀ ≤ 1
    pub same : Same (λ z. times z t₀) m₀ m

  -- The slot that a link leads to is one of the tree's.
  pub record InTree (t₀ : Tree K) (x : ℕ) : Type 0 where
    pub slot : ℕ
    pub is : x ≡ suc slot
    pub one : 1 ≤ times slot t₀

  -- What a reading of a slot by its link says.
  abbrev pub KeyRead : (ℕ → Slot K) → ℕ → K → Type 0
  KeyRead m x k = (s : ℕ) → x ≡ suc s → k ≡ (m s).key

  abbrev pub LinkRead : Side → (ℕ → Slot K) → ℕ → ℕ → Type 0
  LinkRead d m x y = (s : ℕ) → x ≡ suc s → y ≡ link_on d (m s)

  -- The child `up` of x on the side d rises over it.
  pub record Rotated (d : Side) (x up : ℕ) (m m' : ℕ → Slot K) : Type 0 where
    pub between : ℕ → Slot K
    pub low : (s c : ℕ) → x ≡ suc s → up ≡ suc c → Relinked d s (link_on (other d) (m c)) m between
    pub high : (s c : ℕ) → x ≡ suc s → up ≡ suc c → Relinked (other d) c x between m'

  pub near_link : (d : Side) (m : ℕ → Slot K) (e : Entry K) (near far : Tree K) {x y : ℕ} → Holds m (fork d e near far) → x ≡ link_to (fork d e near far)
      → LinkRead d m x y → y ≡ link_to near
  near_link d m e near far h at r =
      r e.slot (at ∙ fork_link d e near far) ∙ ap (link_on d) (held_fork d m e near far h).0 ∙ on_near d e (link_to near) (link_to far)

  pub rises : (d : Side) (e c : Entry K) (near mid far : Tree K) {m m' : ℕ → Slot K} {x up : ℕ} → Holds m (fork d e (fork d c near mid) far)
      → ((z : ℕ) → times z (fork d e (fork d c near mid) far) ≤ 1) → x ≡ suc e.slot → up ≡ suc c.slot → Rotated d x up m m'
      → Holds m' (fork d c near (fork d e mid far)) × Same (λ z. hit z e.slot + hit z c.slot) m m'
  rises d e c near mid far {m} {m'} h one xs us r =
      let (me, hc, hf) = held_fork d m e (fork d c near mid) far h in
      let (mc, hn, hm) = held_fork d m c near mid hc in
      let em : link_on (other d) (m c.slot) ≡ link_to mid = ap (link_on (other d)) mc ∙ on_far d c (link_to near) (link_to mid) in
      let low : Relinked d e.slot (link_to mid) m r.between = rw em at (r.low e.slot c.slot xs us) in
      let high : Relinked (other d) c.slot (suc e.slot) r.between m' = rw xs at (r.high e.slot c.slot xs us) in
      (rotate_holds d e c near mid far low high h one, rotate_same d e c near mid far low high h one)

  pub weigh_rise : (f : Entry K → ℕ) (d : Side) (e c : Entry K) (near mid far : Tree K)
      → weigh f (fork d c near (fork d e mid far)) ≡ weigh f (fork d e (fork d c near mid) far)
  weigh_rise f left e c near mid far = omega arith
  weigh_rise f right e c near mid far = omega arith

  module _ {d u : Side} {t₀ : Tree K} {m₀ m : ℕ → Slot K} {x gtop gend otop oend : ℕ} {t : Tree K} {cg co : List (Frame K)}
      (h : Shape d u t₀ m₀ m x gtop gend otop oend t cg co) where
    -- How often a slot stands in the tree at the node and in the two paths, in all.
    pub counts : (z : ℕ) → times z t + (times_path z cg + times_path z co) ≡ times z t₀
    counts z = h.whole (λ e. hit z e.slot)

    pub flip : Shape u d t₀ m₀ m x otop oend gtop gend t co cg
    flip =
        record {
          at = h.at;
          holds = h.holds;
          near = h.far;
          far = h.near;
          whole = λ f. omega (arith, h.whole f);
          once = h.once;
          same = h.same;
        }

  pub end_in : {d u : Side} {t₀ : Tree K} {m₀ m : ℕ → Slot K} {x gtop gend otop oend : ℕ} {t : Tree K} (cg : List (Frame K)) {co : List (Frame K)}
      → Shape d u t₀ m₀ m x gtop gend otop oend t cg co → 0 < gend → InTree t₀ gend
  end_in [] h p = absurd (omega (arith, h.near.gap_at))
  end_in (f ∷ c) h p =
      record { slot = f.entry.slot; is = h.near.gap_at; one = omega (arith, counts h f.entry.slot, hit_same f.entry.slot) }

  -- At the node e, with its child `near` on the side d, and the other.
  module _ {d u : Side} {t₀ : Tree K} {m₀ m : ℕ → Slot K} {x gtop gend otop oend : ℕ} {cg co : List (Frame K)} (e : Entry K) where
    module _ (near far : Tree K) (h : Shape d u t₀ m₀ m x gtop gend otop oend (fork d e near far) cg co) where
      -- The node's own slot.
      pub shape_at : x ≡ suc e.slot
      shape_at = h.at ∙ fork_link d e near far

      pub shape_in : InTree t₀ x
      shape_in =
          record { slot = e.slot; is = shape_at; one = omega (arith, counts h e.slot, times_fork d e near far e.slot, hit_same e.slot) }

      pub shape_key : {k : K} → KeyRead m x k → k ≡ e.key
      shape_key r =
          r e.slot shape_at ∙ ap (λ (c : Slot K). c.key) (held_fork d m e near far h.holds).0 ∙ on_key d e (link_to near) (link_to far)

      pub shape_near : {y : ℕ} → LinkRead d m x y → y ≡ link_to near
      shape_near r = near_link d m e near far h.holds h.at r

      -- The link: the node goes into the gap, and its child is the next node.
      pub shape_link : {m' : ℕ → Slot K} {r nx : ℕ} → Hung d gtop gend x r m m' → LinkRead d m' x nx
          → Shape d u t₀ m₀ m' nx r x otop oend near (record { entry = e; far = far } ∷ cg) co
      shape_link {m'} p rd =
          let (me, hn, hf) = held_fork d m e near far h.holds in
          let all : (z : ℕ) → hit z e.slot + (times z near + times z far) + (times_path z cg + times_path z co) ≤ 1
          = λ z. omega (arith, times_fork d e near far z, counts h z, h.once z) in
          let fl = fill cg h.near (λ z. omega (arith, all z)) p in
          let me' : m' e.slot ≡ on d e (link_to near) (link_to far) = fl.same e.slot (omega (arith, all e.slot, hit_same e.slot)) ∙ me in
          record {
            at = rd e.slot shape_at ∙ ap (link_on d) me' ∙ on_near d e (link_to near) (link_to far);
            holds = holds_same fl.same near (λ z q. omega (arith, all z)) hn;
            near =
                record {
                  old = link_to near;
                  holds = (me', holds_same fl.same far (λ z q. omega (arith, all z)) hf, rw shape_at at fl.holds);
                  gap_at = shape_at;
                  top_at = fl.at ∙ ap (top_link cg) shape_at;
                };
            far = built_same fl.same (λ z q. omega (arith, all z)) h.far;
            whole = λ f. omega (arith, h.whole f, weigh_fork f d e near far);
            once = h.once;
            same = same_trans h.same (same_more (λ z q. omega (arith, counts h z)) fl.same);
          }

    -- The child c rises over the node.
    pub shape_rotate : (c : Entry K) (near mid far : Tree K) → Shape d u t₀ m₀ m x gtop gend otop oend (fork d e (fork d c near mid) far) cg co
        → {up : ℕ} → up ≡ suc c.slot → {m' : ℕ → Slot K} → Rotated d x up m m'
        → Shape d u t₀ m₀ m' up gtop gend otop oend (fork d c near (fork d e mid far)) cg co
    shape_rotate c near mid far h eu r =
        let all : (z : ℕ) → hit z e.slot + ((hit z c.slot + (times z near + times z mid)) + times z far) + (times_path z cg + times_path z co) ≡ times z t₀
        = λ z. omega (arith, counts h z, times_fork d e (fork d c near mid) far z, times_fork d c near mid z) in
        let (held, fr) = rises d e c near mid far h.holds (λ z. omega (arith, counts h z, h.once z)) (shape_at (fork d c near mid) far h) eu r in
        record {
          at = eu ∙ sym (fork_link d c near (fork d e mid far));
          holds = held;
          near = built_same fr (λ z q. omega (arith, all z, h.once z)) h.near;
          far = built_same fr (λ z q. omega (arith, all z, h.once z)) h.far;
          whole = λ f. omega (arith, h.whole f, weigh_rise f d e c near mid far);
          once = h.once;
          same = same_trans h.same (same_more (λ z q. omega (arith, all z)) fr);
        }
