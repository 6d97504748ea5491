-- Walks from a link down to where no child is left, as next, prev, min and max make them.
use mathlib.Core.Bool.{Bool, true, false}
use mathlib.Core.List.{List}
use mathlib.Core.Option.{Option as Known, none as nil, some}
use mathlib.Core.Path.{◌≡◌, refl, sym, ap, ◌∙◌, subst}
use Prim.Native.Nat.{ℕ, suc, ◌+◌, ◌*◌, ◌≤◌, ◌<◌}
use native.Mathlib.Omega.{arith}
use lib.ListN.{length, get_or}
use Rattle.std.specs.Prelude.{Option, Some, None}
use Rattle.rules.specs.Order.{Side, left, right, other, is_toward, of_side, choose, by_number}
use Rattle.rules.specs.Edition.{edition, Width}
use Rattle.rules.specs.Tree.{Entry, Tree, none, node, size}
use Rattle.rules.specs.Perform.{seek, outermost}
use Rattle.rules.specs.Arena.{Slot}
use Rattle.rules.proofs.Nearest.{child_less, seek_step, outermost_step}
use Rattle.node.specs.Stands.{off, Stands, Inside}
use Rattle.node.proofs.Memory.{no_link}
use Rattle.node.proofs.Words.{slots}
use Rattle.splay.proofs.Walk.{KeyRead}
use Rattle.splay.proofs.Tagged.{stands_few, stands_read}
use Rattle.splay.proofs.Turns.{read_off}
use Rattle.splay.proofs.Standing.{left_stands, right_stands, left_link, right_link, root_in}
use Rattle.lookups.specs.Sought.{Leads, LeadsOr, nowhere, leads_to, SoughtIn}

-- What a node's slot says of it: it is an entry that the link leads to, and its children stand at the links there.
module _ {wd : ℕ} {w : List ℕ} {x : ℕ} (e : Entry ℕ) (l r : Tree ℕ) (h : Stands (edition wd) w x (node e l r)) where
  root_leads : Width wd → Leads wd w x e
  root_leads v =
      record {
        at = h.at;
        inside = root_in (node e l r) v h (omega (arith, h.at));
        key = ap (λ (c : Slot ℕ). c.key) h.holds.0;
        value = ap (λ (c : Slot ℕ). c.value) h.holds.0;
      }

  child_stands : (s : Side) (y : ℕ) → y ≡ get_or w ((3 + wd) * x + off s) 0 → Stands (edition wd) w y (of_side s l r)
  child_stands left y p = subst (λ (v : ℕ). Stands (edition wd) w v l) (sym (left_link e l r h y p)) (left_stands e l r h)
  child_stands right y p = subst (λ (v : ℕ). Stands (edition wd) w v r) (sym (right_link e l r h y p)) (right_stands e l r h)

-- On the way: a tree stands at the link x, `best` leads to the entry that is known, and P says what they are good for.
pub record Walk (wd : ℕ) (w : List ℕ) (P : Tree ℕ → Known (Entry ℕ) → Type 0) (x : ℕ) (best : Option ℕ) : Type 0 where
  pub width : Width wd
  pub t : Tree ℕ
  pub known : Known (Entry ℕ)
  pub stands : Stands (edition wd) w x t
  pub leads : LeadsOr wd w best known
  pub goal : P t known

better : (b : Bool) {wd : ℕ} {w : List ℕ} {x : ℕ} {best : Option ℕ} {e : Entry ℕ} {known : Known (Entry ℕ)} → Leads wd w x e → LeadsOr wd w best known
    → LeadsOr wd w (choose b (Some x) best) (choose b (some e) known)
better true here before = leads_to here
better false here before = before

module _ {wd : ℕ} {w : List ℕ} {P : Tree ℕ → Known (Entry ℕ) → Type 0} {x : ℕ} {best : Option ℕ} (i : Walk wd w P x best) where
  pub walk_in : (x ≡ 0 → ⊥) → Inside wd w x
  walk_in p = root_in i.t i.width i.stands (omega (arith, p))

  -- A turn: the walk goes on at the child on the side s, and where b holds the node becomes the best so far.
  pub walk_turn : {Q : Tree ℕ → Known (Entry ℕ) → Type 0} → (x ≡ 0 → ⊥) → (s : Side) (b : Bool) (y : ℕ) → y ≡ get_or w ((3 + wd) * x + off s) 0
      → ((e : Entry ℕ) (l r : Tree ℕ) (known : Known (Entry ℕ)) → x ≡ suc e.slot → (slots wd w e.slot).key ≡ e.key → P (node e l r) known
      → Q (of_side s l r) (choose b (some e) known))
      → Walk wd w Q y (choose b (Some x) best) × (size (read_off wd w y) < size (read_off wd w x))
  walk_turn {Q} p s b y ey f = by i.t i.stands i.goal
    where
      by : (t : Tree ℕ) → Stands (edition wd) w x t → P t i.known → Walk wd w Q y (choose b (Some x) best) × (size (read_off wd w y) < size (read_off wd w x))
      by none h g = absurd (p h.at)
      by (node e l r) h g =
          let here = root_leads e l r h i.width in
          let h' = child_stands e l r h s y ey in (
            record {
              width = i.width;
              t = of_side s l r;
              known = choose b (some e) i.known;
              stands = h';
              leads = better b here i.leads;
              goal = f e l r i.known h.at here.key g;
            },
            rw (stands_read h', stands_read h) (child_less s e l r),
          )

  -- No child is left.
  pub walk_end : x ≡ 0 → P none i.known
  walk_end p = subst (λ (u : Tree ℕ). P u i.known) (no_link i.t (sym i.stands.at ∙ p)) i.goal

-- What the walk of next and prev comes to, from the tree t₀ with nothing known, after `count` nodes.
pub record Seeking (wd : ℕ) (d : Side) (key : ℕ) (t₀ : Tree ℕ) (count : ℕ) (t : Tree ℕ) (known : Known (Entry ℕ)) : Type 0 where
  pub same : (m : ℕ) → seek (edition wd) d key t₀ nil m ≡ seek (edition wd) d key t known (m + count)
  pub few : count + size t ≤ size t₀

-- What the walk of min and max comes to.
pub record Ending (d : Side) (t₀ t : Tree ℕ) (known : Known (Entry ℕ)) : Type 0 where
  pub same : outermost d t₀ nil ≡ outermost d t known

module _ {wd : ℕ} {d : Side} {w : List ℕ} {x : ℕ} (v : Width wd) (h : (t : Tree ℕ) × Stands (edition wd) w x t) where
  pub seek_begin : {key : ℕ} → Walk wd w (Seeking wd d key (read_off wd w x) 0) x None
  seek_begin {key} =
      record {
        width = v;
        t = h.0;
        known = nil;
        stands = h.1;
        leads = nowhere;
        goal = rw (stands_read h.1) record { same = λ m. ap (seek (edition wd) d key h.0 nil) (omega arith); few = omega arith };
      }

  pub outermost_begin : Walk wd w (Ending d (read_off wd w x)) x None
  outermost_begin = record { width = v; t = h.0; known = nil; stands = h.1; leads = nowhere; goal = rw (stands_read h.1) record { same = refl } }

module _ {wd : ℕ} {d : Side} {w : List ℕ} {t₀ : Tree ℕ} {x : ℕ} {best : Option ℕ} where
  module _ {key count : ℕ} (i : Walk wd w (Seeking wd d key t₀ count) x best) where
    -- A turn, by the test b and the side s that it leads to.
    pub seek_turn : (x ≡ 0 → ⊥) → (k : ℕ) → KeyRead (slots wd w) x k → (b : Bool) → is_toward d (by_number key k) ≡ b
        → (s : Side) → s ≡ choose b d (other d) → (y : ℕ) → y ≡ get_or w ((3 + wd) * x + off s) 0
        → Walk wd w (Seeking wd d key t₀ (count + 1)) y (choose b (Some x) best) × (size (read_off wd w y) < size (read_off wd w x))
    seek_turn p k ek b eb s es y ey =
        walk_turn i p (choose b d (other d)) b y (rw es at ey)
        (λ e l r known at ke g.
        let eo : is_toward d (by_number key e.key) ≡ b = ap (λ (u : ℕ). is_toward d (by_number key u)) (sym (ek e.slot at ∙ ke)) ∙ eb in
        record {
          same = λ m. g.same m ∙ seek_step (edition wd) d key b e l r known (m + count) eo ∙ ap (seek (edition wd) d key _ _) (omega arith);
          few = omega (arith, g.few, child_less (choose b d (other d)) e l r);
        })

    pub seek_end : x ≡ 0 → SoughtIn wd d key w t₀ best count
    unfolding seek
    seek_end p =
        let g = walk_end i p in
        record { entry = i.known; leads = i.leads; same = g.same; few = omega (arith, g.few) }

  -- A turn to the side where the test b holds, and to the other side where it does not. The keys q and k are those that the code tests.
  module _ {key count q n k : ℕ} {b : Bool} (i : Walk wd w (Seeking wd d key t₀ count) x best) (p : x ≡ 0 → ⊥)
      (eb : b ≡ is_toward d (by_number q k)) (eq : q ≡ key) (ek : k ≡ n) (en : KeyRead (slots wd w) x n) where
    says : (c : Bool) → b ≡ c → is_toward d (by_number key n) ≡ c
    says c e = rw (eq, ek, e) at (sym eb)

    module _ {y : ℕ} (e : b ≡ true) (ey : y ≡ get_or w ((3 + wd) * x + off d) 0) where
      pub seek_near : Walk wd w (Seeking wd d key t₀ (count + 1)) y (Some x)
      seek_near = (seek_turn i p n en true (says true e) d refl y ey).0

      pub seek_near_less : size (read_off wd w y) < size (read_off wd w x)
      seek_near_less = (seek_turn i p n en true (says true e) d refl y ey).1

    module _ {s : Side} {y : ℕ} (e : b ≡ false) (es : s ≡ other d) (ey : y ≡ get_or w ((3 + wd) * x + off s) 0) where
      pub seek_far : Walk wd w (Seeking wd d key t₀ (count + 1)) y best
      seek_far = (seek_turn i p n en false (says false e) s es y ey).0

      pub seek_far_less : size (read_off wd w y) < size (read_off wd w x)
      seek_far_less = (seek_turn i p n en false (says false e) s es y ey).1

  module _ (i : Walk wd w (Ending d t₀) x best) where
    pub outermost_turn : (x ≡ 0 → ⊥) → (y : ℕ) → y ≡ get_or w ((3 + wd) * x + off d) 0
        → Walk wd w (Ending d t₀) y (Some x) × (size (read_off wd w y) < size (read_off wd w x))
    outermost_turn p y ey = walk_turn i p d true y ey (λ e l r known at ke g. record { same = g.same ∙ outermost_step d e l r known })

    pub outermost_end : x ≡ 0 → LeadsOr wd w best (outermost d t₀ nil)
    unfolding outermost
    outermost_end p = subst (LeadsOr wd w best) (sym (walk_end i p).same) i.leads

    pub outermost_on : {y : ℕ} → (x ≡ 0 → ⊥) → y ≡ get_or w ((3 + wd) * x + off d) 0 → Walk wd w (Ending d t₀) y (Some x)
    outermost_on p ey = (outermost_turn p _ ey).0

    pub outermost_less : {y : ℕ} → (x ≡ 0 → ⊥) → y ≡ get_or w ((3 + wd) * x + off d) 0 → size (read_off wd w y) < size (read_off wd w x)
    outermost_less p ey = (outermost_turn p _ ey).1

-- The walk ends at a link 0.
pub outermost_stop : {wd : ℕ} {d : Side} {w : List ℕ} {t : Tree ℕ} {start x : ℕ} {best : Option ℕ}
    → Walk wd w (Ending d (read_off wd w start)) x best → x ≡ 0 → Stands (edition wd) w start t → LeadsOr wd w best (outermost d t nil)
outermost_stop i p h = rw (stands_read h) at (outermost_end i p)

pub seek_stop : {wd : ℕ} {d : Side} {key count : ℕ} {w : List ℕ} {t : Tree ℕ} {start x : ℕ} {best : Option ℕ}
    → Walk wd w (Seeking wd d key (read_off wd w start) count) x best → x ≡ 0 → Stands (edition wd) w start t → SoughtIn wd d key w t best count
seek_stop i p h = rw (stands_read h) at (seek_end i p)

-- No more nodes are met than there are words.
pub seek_few : {wd : ℕ} {d : Side} {key count : ℕ} {w : List ℕ} {start x : ℕ} {best : Option ℕ}
    → Walk wd w (Seeking wd d key (read_off wd w start) count) x best → (t : Tree ℕ) × Stands (edition wd) w start t → count ≤ length w
seek_few i (t, h) = omega (arith, i.goal.few, stands_few h, ap size (stands_read h))
