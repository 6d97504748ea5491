-- The end of the splay in any memory: the node's subtrees go to the ends of the two trees, and the trees become its children.
use mathlib.Core.Path.{◌≡◌, sym, ap, ◌∙◌, subst}
use Prim.Native.Nat.{ℕ, suc, ◌+◌, ◌≤◌}
use native.Mathlib.Omega.{arith}
use Rattle.rules.specs.Order.{left, right, Order}
use Rattle.rules.specs.Tree.{Tree, none, node, hang, hit, times, link_to}
use Rattle.rules.specs.Splay.{Splayed, splay}
use Rattle.rules.specs.Arena.{Slot, Holds}
use Rattle.rules.proofs.Hit.{hit_same}
use Rattle.rules.proofs.Splay.{splay_only}
use Rattle.node.proofs.Memory.{on, Same, same_trans, same_more, holds_same, Relinked, relinked_same, relinked_near, relinked_far}
use Rattle.splay.proofs.Paths.{plug, times_path, path_same, plug_holds, plug_link, plug_weigh, hang_gap, built_same, Hung, fill}
use Rattle.splay.proofs.Walk.{LinkRead, counts, shape_near}
use Rattle.splay.proofs.Steps.{Stopped}

module _ {K : Type 0} where
  module _ (cmp : K → K → Order) (key : K) where
    pub record Done (t₀ : Tree K) (m₀ m' : ℕ → Slot K) (x count : ℕ) : Type 0 where
      pub at : x ≡ link_to (splay cmp key t₀).tree
      pub holds : Holds m' (splay cmp key t₀).tree
      pub counted : count ≡ (splay cmp key t₀).count
      pub same : Same (λ z. times z t₀) m₀ m'

    pub finish : {t₀ : Tree K} {m₀ m m₁ m₂ m₃ m₄ : ℕ → Slot K} {x rtop rend ltop lend count a b lt rt : ℕ}
        → Stopped cmp key left t₀ m₀ m x rtop rend ltop lend count
        → LinkRead left m x a → LinkRead right m x b
        → Hung right ltop lend a lt m m₁ → Hung left rtop rend b rt m₁ m₂
        → ((s : ℕ) → x ≡ suc s → Relinked left s lt m₂ m₃) → ((s : ℕ) → x ≡ suc s → Relinked right s rt m₃ m₄)
        → Done t₀ m₀ m₄ x count
    finish {t₀} {m₀} {m} {m₁} {m₂} {m₃} {m₄} {x} {lt = lt} {rt = rt} p ea eb u₁ u₂ p₃ p₄ =
        let h = p.at.shape in
        let e = p.at.e in
        let l = p.near in
        let r = p.at.far in
        let cr = p.at.cg in
        let cl = p.at.co in
        let (me, hl, hr) = h.holds in
        let one : (z : ℕ) → hit z e.slot + (times z l + times z r) + (times_path z cr + times_path z cl) ≤ 1 = λ z. omega (arith, counts h z, h.once z) in
        let f₁ = fill cl h.far (λ z. omega (arith, one z)) (rw (shape_near e l r h ea) at u₁) in
        let f₂ = fill cr (built_same f₁.same (λ z q. omega (arith, one z)) h.near) (λ z. omega (arith, one z)) (rw (eb e.slot h.at ∙ ap (λ (c : Slot K). c.right) me) at u₂) in
        let s₂ : Same (λ z. times_path z cr + times_path z cl) m m₂
        = same_trans (same_more (λ z q. omega arith) f₁.same) (same_more (λ z q. omega arith) f₂.same) in
        let hL = plug_holds right m₂ cl l (path_same right f₂.same cl (link_to l) (λ z q. omega (arith, one z)) f₁.holds) (holds_same s₂ l (λ z q. omega (arith, one z)) hl) in
        let hR = plug_holds left m₂ cr r f₂.holds (holds_same s₂ r (λ z q. omega (arith, one z)) hr) in
        let me₄ : m₄ e.slot ≡ on left e lt rt
        = relinked_far left e _ _ (p₄ e.slot h.at) (relinked_near e _ _ (p₃ e.slot h.at) (s₂ e.slot (omega (arith, one e.slot, hit_same e.slot)) ∙ me)) in
        let s₄ : Same (λ z. hit z e.slot) m₂ m₄ = same_trans (relinked_same (p₃ e.slot h.at)) (relinked_same (p₄ e.slot h.at)) in
        let held : Holds m₄ (node e (plug right cl l) (plug left cr r)) = (
          me₄ ∙ ap (λ (a : ℕ). on left e a rt) (f₁.at ∙ sym (plug_link right cl l)) ∙ ap (λ (b : ℕ). on left e (link_to (plug right cl l)) b) (f₂.at ∙ sym (plug_link left cr r)),
          holds_same s₄ (plug right cl l) (λ z q. omega (arith, one z, plug_weigh (λ e. hit z e.slot) right cl l)) hL,
          holds_same s₄ (plug left cr r) (λ z q. omega (arith, one z, plug_weigh (λ e. hit z e.slot) left cr r)) hR,
        ) in
        let z = splay_only cmp key t₀ _ p.goal in
        let et : node e (plug right cl l) (plug left cr r) ≡ (splay cmp key t₀).tree
        = sym (ap (λ (u : Tree K). node e u (hang left (plug left cr none) r)) (hang_gap right cl l)
        ∙ ap (λ (u : Tree K). node e (plug right cl l) u) (hang_gap left cr r))
        ∙ ap (λ (u : Splayed K). u.tree) z in
        record {
          at = h.at ∙ ap link_to et;
          holds = subst (λ (u : Tree K). Holds m₄ u) et held;
          counted = ap (λ (u : Splayed K). u.count) z;
          same =
              same_trans h.same
              (same_trans (same_more (λ z q. omega (arith, counts h z)) s₂) (same_more (λ z q. omega (arith, counts h z)) s₄));
        }
