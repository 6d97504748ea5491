-- 9, 10: the end that has risen to the root is taken, for either side.
use mathlib.Core.List.{List}
use mathlib.Core.Path.{◌≡◌, refl, ap, ◌∙◌, subst}
use Prim.Native.Nat.{ℕ, suc, ◌+◌, ◌*◌, ◌-◌, ◌≤◌, ◌<◌}
use native.Mathlib.Omega.{arith}
use lib.ListN.{get_or}
use Rattle.rules.specs.Order.{Side, left, right, other}
use Rattle.rules.specs.Edition.{edition, Width}
use Rattle.rules.specs.Command.{Command, REMOVED, telling, take_first, take_last}
use Rattle.rules.specs.Tree.{Entry, Tree, none, node, fork, hit, times, weigh, link_to}
use Rattle.rules.specs.Perform.{State, Outcome, freeing, gives, raise, taken, perform}
use Rattle.rules.specs.Arena.{Slot, free_slot}
use Rattle.rules.specs.Fit.{Moving}
use Rattle.rules.proofs.Hit.{hit_same}
use Rattle.rules.proofs.Order.{edition_lawful}
use Rattle.rules.proofs.Splay.{weigh_fork}
use Rattle.rules.proofs.Kept.{Moved, perform_moved}
use Rattle.node.specs.Stands.{off, Stands, Inside, Filled}
use Rattle.node.proofs.Memory.{link_on, on_key, on_value, on_far, fork_link, held_fork}
use Rattle.node.proofs.Words.{slots, link_word}
use Rattle.splay.specs.Moves.{Became, risen, end_risen}
use Rattle.heads.specs.Headed.{Headed, Somehow, Obeyed}
use Rattle.heads.specs.Worded.{Words}
use Rattle.heads.specs.declared.answer.Answer.{Answer}
use Rattle.heads.specs.declared.answer.Code.TheVariants as code
use Rattle.heads.specs.declared.head.Head.{Head}
use Rattle.heads.proofs.Heads.{obeyed_as, rooted_at, tree_stands, obeys}
use Rattle.lookups.proofs.Present.{worded}
use Rattle.changes.proofs.Release.{release}

-- The end of a tree: it is the root once it has risen, with no child on its side, and it is what is taken.
pub record Ended (wd : ℕ) (d : Side) (t : Tree ℕ) (st : State ℕ) : Type 0 where
  pub e : Entry ℕ
  pub far : Tree ℕ
  pub up : end_risen d t ≡ fork d e none far
  pub nodes : (f : Entry ℕ → ℕ) → weigh f t ≡ f e + weigh f far
  pub outcome : taken (edition wd) d t st ≡ gives (telling (edition wd) REMOVED e.key e.value 0) (freeing e.slot far st)

record Risen (wd : ℕ) (d : Side) (near : Tree ℕ) (c : Entry ℕ) (y : Tree ℕ) (st : State ℕ) : Type 0 where
  e : Entry ℕ
  far : Tree ℕ
  up : risen d near c y ≡ fork d e none far
  nodes : (f : Entry ℕ → ℕ) → f c + (weigh f near + weigh f y) ≡ f e + weigh f far
  outcome : raise (edition wd) d near c y st ≡ gives (telling (edition wd) REMOVED e.key e.value 0) (freeing e.slot far st)

rises : (wd : ℕ) (d : Side) (near : Tree ℕ) (c : Entry ℕ) (y : Tree ℕ) (st : State ℕ) → Risen wd d near c y st
unfolding risen raise
rises wd d none c y st = record { e = c; far = y; up = refl; nodes = λ f. omega arith; outcome = refl }
rises wd left (node b l r) c y st =
    let q = rises wd left l b (node c r y) st in
    record { e = q.e; far = q.far; up = q.up; nodes = λ f. omega (arith, q.nodes f); outcome = q.outcome }
rises wd right (node b l r) c y st =
    let q = rises wd right r b (node c y l) st in
    record { e = q.e; far = q.far; up = q.up; nodes = λ f. omega (arith, q.nodes f); outcome = q.outcome }

pub ends : (wd : ℕ) (d : Side) (t : Tree ℕ) (st : State ℕ) → 0 < link_to t → Ended wd d t st
ends wd d none st p = absurd (omega arith)
ends wd left (node c l r) st p =
    let q = rises wd left l c r st in
    record { e = q.e; far = q.far; up = q.up; nodes = λ f. omega (arith, q.nodes f); outcome = q.outcome }
ends wd right (node c l r) st p =
    let q = rises wd right r c l st in
    record { e = q.e; far = q.far; up = q.up; nodes = λ f. omega (arith, q.nodes f); outcome = q.outcome }

-- The command that takes the end on a side.
record Taker (wd : ℕ) (d : Side) (st : State ℕ) : Type 0 where
  command : Command ℕ
  moving : Moving command
  does : perform (edition wd) command st ≡ taken (edition wd) d st.tree st

taker : (wd : ℕ) (d : Side) (st : State ℕ) → Taker wd d st
unfolding perform
taker wd left st = record { command = take_first; moving = tt; does = refl }
taker wd right st = record { command = take_last; moving = tt; does = refl }

module _ {wd : ℕ} (d : Side) {st : State ℕ} {h : Head} {w w₁ : List ℕ} {x : ℕ} (f : Headed wd w h st) (z : h.root ≡ 0 → ⊥) (b : Became wd w w₁ x st.tree (end_risen d st.tree)) where
  pub end : Ended wd d st.tree st
  end = ends wd d st.tree st (omega (arith, z, f.root))

  up_stands : Stands (edition wd) w₁ x (fork d end.e none end.far)
  up_stands = subst (λ (t : Tree ℕ). Stands (edition wd) w₁ x t) end.up b.stands

  pub end_at : x ≡ suc end.e.slot
  end_at = up_stands.at ∙ fork_link d end.e none end.far

  end_one : 1 ≤ times end.e.slot st.tree
  end_one = omega (arith, end.nodes (λ e. hit end.e.slot e.slot), hit_same end.e.slot)

  pub end_inside : Width wd → Inside wd w₁ x
  end_inside v =
      let q = up_stands.inside end.e.slot (omega (arith, weigh_fork (λ e. hit end.e.slot e.slot) d end.e none end.far, hit_same end.e.slot)) in
      rw end_at (omega arith)

  pub taken_here : {K : Type 0} {number : K → ℕ} {a : Answer K} {y : ℕ} {o : Side} {w₂ : List ℕ} {h₁ h' : Head} → Width wd → o ≡ other d → y ≡ get_or w₁ ((3 + wd) * x + off o) 0
      → h₁ ≡ rooted_at h y → Filled wd x (free_slot (edition wd) h₁.free) w₁ w₂ → h' ≡ record { root = h₁.root; size = h₁.size - 1; free = x }
      → ((s : ℕ) → x ≡ suc s → Words number a code.Removed (slots wd w₁ s).key (slots wd w₁ s).value 0)
      → Obeyed number wd (taken (edition wd) d st.tree st) st w w₂ (record { answer = a; head = h' })
  taken_here {y = y} v eo ey e r eh a =
      let (m, hn, hf) = held_fork d (slots wd w₁) end.e none end.far up_stands.holds in
      let yf : y ≡ link_to end.far
      = (rw eo at ey) ∙ link_word (other d) wd w₁ x end.e.slot end_at ∙ ap (link_on (other d)) m ∙ on_far d end.e 0 (link_to end.far) in
      let t = taker wd d st in
      let q = t.does ∙ end.outcome in
      rw (eh, e)
      (obeyed_as end.outcome
      (obeys f v t.command t.moving q
      (rw (ap (λ (c : Slot ℕ). c.key) m ∙ on_key d end.e 0 (link_to end.far), ap (λ (c : Slot ℕ). c.value) m ∙ on_value d end.e 0 (link_to end.far))
      at (worded (a end.e.slot end_at)))
      (omega (arith, f.live, f.fit.low))
      (release f end.e.slot x y end.far b.only hf yf end_at (rw e at r) end_one
      (subst (λ (o : Outcome ℕ). Moved st o.state) q (perform_moved (edition wd) (edition_lawful v) t.command t.moving st f.fit)))))

-- The words of the end that has risen are there.
module _ {wd : ℕ} (d : Side) {h : Head} {w w₁ : List ℕ} {x : ℕ} (z : h.root ≡ 0 → ⊥) (b : (t : Tree ℕ) → Stands (edition wd) w h.root t → Became wd w w₁ x t (end_risen d t)) where
  pub end_there : Somehow wd w h → Inside wd w₁ x
  end_there (st, f, v) = end_inside d f z (b st.tree (tree_stands f)) v
