-- An end of a tree rises to the root, for either side.
use mathlib.Core.List.{List}
use mathlib.Core.Path.{◌≡◌, refl, sym, ◌∙◌, subst}
use Prim.Native.Nat.{ℕ, suc, ◌+◌, ◌*◌, ◌<◌}
use native.Mathlib.Omega.{arith}
use lib.ListN.{get_or}
use Rattle.rules.specs.Order.{Side, left, right, other, of_side}
use Rattle.rules.specs.Edition.{edition, Width}
use Rattle.rules.specs.Tree.{Entry, Tree, none, node, fork, hit, times, size, link_to}
use Rattle.rules.proofs.Hit.{hit_same}
use Rattle.rules.proofs.Splay.{weigh_fork}
use Rattle.node.specs.Stands.{off, Stands, Changed, Inside}
use Rattle.node.proofs.Memory.{fork_link, times_fork, by_fork, no_link}
use Rattle.node.proofs.Words.{slots, kept_trans}
use Rattle.splay.specs.Moves.{rotated, Somewhere, Became, risen, end_risen}
use Rattle.splay.proofs.Walk.{near_link, rises, weigh_rise}
use Rattle.splay.proofs.Tagged.{link_read, rotated_at, rotated_kept, stands_read}
use Rattle.splay.proofs.Turns.{read_off}
use Rattle.splay.proofs.Standing.{unchanged}

-- The child on the side d.
abbrev pub child : Side → Tree ℕ → Tree ℕ
child d none = none
child d (node e l r) = of_side d l r

child_fork : (d : Side) (e : Entry ℕ) (x y : Tree ℕ) → child d (fork d e x y) ≡ x
child_fork left e x y = refl
child_fork right e x y = refl

risen_turn : (d : Side) (e c : Entry ℕ) (x mid far : Tree ℕ) → end_risen d (fork d c x (fork d e mid far)) ≡ end_risen d (fork d e (fork d c x mid) far)
unfolding risen
risen_turn left e c x mid far = refl
risen_turn right e c x mid far = refl

risen_end : (d : Side) (e : Entry ℕ) (far : Tree ℕ) → end_risen d (fork d e none far) ≡ fork d e none far
unfolding risen
risen_end left e far = refl
risen_end right e far = refl

-- What holds at the loop's head, at a node with the child `near` on the side d: its tree has the same nodes as the first tree t₀, and its
-- end rises to the same tree.
pub record Raising (wd : ℕ) (d : Side) (t₀ : Tree ℕ) (w₀ w : List ℕ) (x : ℕ) (near : Tree ℕ) : Type 0 where
  pub width : Width wd
  pub e : Entry ℕ
  pub far : Tree ℕ
  pub stands : Stands (edition wd) w x (fork d e near far)
  pub goal : end_risen d (fork d e near far) ≡ end_risen d t₀
  pub nodes : (z : ℕ) → times z (fork d e near far) ≡ times z t₀
  pub only : Changed (edition wd) (λ s. times s t₀) w₀ w

pub raise_begin : {wd : ℕ} (d : Side) {w : List ℕ} {x : ℕ} → Width wd → Somewhere wd w x → (near : Tree ℕ) × Raising wd d (read_off wd w x) w w x near
raise_begin {wd} d {w} {x} v (t, h, p) =
    subst (λ (u : Tree ℕ). (near : Tree ℕ) × Raising wd d u w w x near) (sym (stands_read h))
    (by_fork d (λ u. Stands (edition wd) w x u → (near : Tree ℕ) × Raising wd d u w w x near)
    (λ s. absurd (omega (arith, s.at)))
    (λ e l r s. (l, record { width = v; e = e; far = r; stands = s; goal = refl; nodes = λ z. refl; only = unchanged }))
    t h)

module _ {wd : ℕ} {d : Side} {t₀ : Tree ℕ} {w₀ w : List ℕ} {x : ℕ} {near : Tree ℕ} (i : Raising wd d t₀ w₀ w x near) where
  at : x ≡ suc i.e.slot
  at = i.stands.at ∙ fork_link d i.e near i.far

  pub raise_in : Inside wd w x
  raise_in =
      let b = i.stands.inside i.e.slot (omega (arith, times_fork d i.e near i.far i.e.slot, hit_same i.e.slot)) in
      let v = i.width in
      rw at (omega arith)

  link_is : {y : ℕ} → y ≡ get_or w ((3 + wd) * x + off d) 0 → y ≡ link_to near
  link_is {y} e = near_link d (slots wd w) i.e near i.far i.stands.holds i.stands.at (link_read wd d w x y e)

-- No child is left on the side d.
pub raise_stop : {wd : ℕ} {d : Side} {w₀ w : List ℕ} {start x y : ℕ} {near t : Tree ℕ} → Raising wd d (read_off wd w₀ start) w₀ w x near
    → y ≡ get_or w ((3 + wd) * x + off d) 0 → y ≡ 0 → Stands (edition wd) w₀ start t → Became wd w₀ w x t (end_risen d t)
raise_stop {wd} {d} {w₀} {w} {start} {x} {near = near} i e z h =
    rw (stands_read h) at (by (subst (λ n. Raising wd d (read_off wd w₀ start) w₀ w x n) (no_link near (sym (link_is i e) ∙ z)) i))
  where
    by : Raising wd d (read_off wd w₀ start) w₀ w x none → Became wd w₀ w x (read_off wd w₀ start) (end_risen d (read_off wd w₀ start))
    by v =
        record { stands = subst (λ (u : Tree ℕ). Stands (edition wd) w x u) (sym (risen_end d v.e v.far) ∙ v.goal) v.stands; only = v.only }

-- A turn: the child `up` rises.
module _ {wd : ℕ} {d : Side} {t₀ : Tree ℕ} {w₀ w : List ℕ} {x up : ℕ} where
  turn : {near : Tree ℕ} → Raising wd d t₀ w₀ w x near → up ≡ get_or w ((3 + wd) * x + off d) 0 → (up ≡ 0 → ⊥)
      → Inside wd w up × ((w' : List ℕ) → w' ≡ rotated wd (off d) (off (other d)) w x up
      → ((near : Tree ℕ) × Raising wd d t₀ w₀ w' up near) × (size (child d (read_off wd w' up)) < size (child d (read_off wd w x))))
  turn {near} i e p =
      by_fork d
      (λ n. up ≡ link_to n → Raising wd d t₀ w₀ w x n → Inside wd w up × ((w' : List ℕ) → w' ≡ rotated wd (off d) (off (other d)) w x up
      → ((near : Tree ℕ) × Raising wd d t₀ w₀ w' up near) × (size (child d (read_off wd w' up)) < size (child d (read_off wd w x)))))
      (λ q v. absurd (p q))
      (λ c a mid q v.
      let h = v.stands in
      let us : up ≡ suc c.slot = q ∙ fork_link d c a mid in
      let whole : (z : ℕ) → times z (fork d v.e (fork d c a mid) v.far) ≡ hit z v.e.slot + ((hit z c.slot + (times z a + times z mid)) + times z v.far)
      = λ z. omega (arith, times_fork d v.e (fork d c a mid) v.far z, times_fork d c a mid z) in
      let same : (z : ℕ) → times z (fork d c a (fork d v.e mid v.far)) ≡ times z (fork d v.e (fork d c a mid) v.far)
      = λ z. weigh_rise (λ e. hit z e.slot) d v.e c a mid v.far in
      let bu : Inside wd w up = (let b = h.inside c.slot (omega (arith, whole c.slot, hit_same c.slot)) in let v = i.width in rw us (omega arith)) in (
        bu,
        λ w' ew.
            let k = rotated_kept wd d w w' x up (raise_in i) bu ew in
            let (held, fr) = rises d v.e c a mid v.far h.holds h.once (at v) us (rotated_at wd d w w' x up (raise_in i) bu ew) in
            let h' : Stands (edition wd) w' up (fork d c a (fork d v.e mid v.far)) =
            record {
              at = us ∙ sym (fork_link d c a (fork d v.e mid v.far));
              holds = held;
              once = λ z. omega (arith, same z, h.once z);
              inside = λ z o. (let b = h.inside z (omega (arith, same z)) in omega (arith, k.len));
            } in (
              (
                a,
                record {
                  width = v.width;
                  e = c;
                  far = fork d v.e mid v.far;
                  stands = h';
                  goal = risen_turn d v.e c a mid v.far ∙ v.goal;
                  nodes = λ z. omega (arith, same z, v.nodes z);
                  only =
                      record {
                        kept = kept_trans v.only.kept k;
                        same = λ z o. fr z (omega (arith, whole z, v.nodes z)) ∙ v.only.same z o;
                      };
                },
              ),
              rw (stands_read h', stands_read h, child_fork d c a (fork d v.e mid v.far), child_fork d v.e (fork d c a mid) v.far) (omega (arith, weigh_fork (λ e. 1) d c a mid)),
            ),
      ))
      near (link_is i e) i

  module _ {near : Tree ℕ} (i : Raising wd d t₀ w₀ w x near) (e : up ≡ get_or w ((3 + wd) * x + off d) 0) (p : up ≡ 0 → ⊥) where
    pub up_in : Inside wd w up
    up_in = (turn i e p).0

    module _ {w' : List ℕ} (q : w' ≡ rotated wd (off d) (off (other d)) w x up) where
      pub raise_on : (near : Tree ℕ) × Raising wd d t₀ w₀ w' up near
      raise_on = ((turn i e p).1 w' q).0

      pub raise_less : size (child d (read_off wd w' up)) < size (child d (read_off wd w x))
      raise_less = ((turn i e p).1 w' q).1
