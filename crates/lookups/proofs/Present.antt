-- After the splay: the root is read, and the key is there or not.
use mathlib.Core.Bool.{true, false, not}
use mathlib.Core.List.{List}
use mathlib.Core.Path.{◌≡◌, refl, sym, ap, ◌∙◌, subst}
use Prim.Native.Nat.{ℕ, suc, ◌+◌, ◌*◌, ◌≤◌}
use native.Mathlib.Omega.{arith}
use lib.ListN.{set}
use Rattle.std.proofs.lemmas.Bool.{not-false}
use Rattle.rules.specs.Order.{Side, Order, equal, toward, by_number}
use Rattle.rules.specs.Edition.{edition, Width}
use Rattle.rules.specs.Command.{Command, get, write}
use Rattle.rules.specs.Tree.{Entry, Tree, none, node, hit, weigh, link_to}
use Rattle.rules.specs.Splay.{splay, walk}
use Rattle.rules.specs.Perform as M
use Rattle.rules.specs.Perform.{State, Outcome, met, with_tree, revalued, root_met, bring, if_present, found, replaced, perform}
use Rattle.rules.specs.Arena.{Slot}
use Rattle.rules.specs.Fit.{Moving}
use Rattle.rules.proofs.Hit.{hit_ne}
use Rattle.rules.proofs.Order.{order_from, order_says}
use Rattle.rules.proofs.Splay.{splay_count, splay_real, splay_weighs, Real}
use Rattle.node.specs.Stands.{Stands, Inside}
use Rattle.node.proofs.Memory.{no_link, real_link, Same, holds_same}
use Rattle.node.proofs.Words.{slots, put_at, with_word, kept_set, kept_trans}
use Rattle.splay.specs.Moves.{Became}
use Rattle.splay.proofs.Standing.{root_in, SplayedAt}
use Rattle.splay.proofs.Walk.{KeyRead}
use Rattle.heads.specs.Headed.{Headed, Somehow, Obeyed}
use Rattle.heads.specs.Slots.{Wrote}
use Rattle.heads.specs.Worded.{code_of, Words, Says}
use Rattle.heads.specs.declared.answer.Answer.{Answer}
use Rattle.heads.specs.declared.answer.Code.{Code}
use Rattle.heads.specs.declared.answer.Code.TheVariants as code
use Rattle.heads.specs.declared.head.Head.{Head}
use Rattle.heads.proofs.Heads.{obeyed_as, rooted_at, tree_stands, chain_stays, stays, obeys, root_wrote}
use Rattle.lookups.specs.Met.{Few, AtRoot, Meets, no_tree, beside, here}
use Rattle.lookups.specs.declared.lookup.Met.{Met}

-- The tree under a head has no more nodes than an arena has slots.
pub tree_few : {wd : ℕ} {w : List ℕ} {h : Head} {st : State ℕ} → Headed wd w h st → Few wd w h.root st.tree
tree_few f = record { stands = tree_stands f; few = omega (arith, f.fit.low, f.fit.in_range) }

-- Numbers that differ lie on a side.
pub apart : (a b : ℕ) → (a ≡ b → ⊥) → (s : Side) × (by_number a b ≡ toward s)
apart a b n = by (by_number a b) refl
  where
    by : (o : Order) → by_number a b ≡ o → (s : Side) × (by_number a b ≡ toward s)
    by equal e = absurd (n (order_says equal a b e))
    by (toward s) e = (s, e)

-- The root's slot.
module _ {wd : ℕ} {t : Tree ℕ} {w w₁ : List ℕ} {x : ℕ} {e : Entry ℕ} {l r : Tree ℕ} (p : AtRoot wd t w w₁ x e l r) where
  pub root_at : x ≡ suc e.slot
  root_at = p.became.stands.at

  pub root_inside : Width wd → Inside wd w₁ x
  root_inside v = root_in (node e l r) v p.became.stands (omega (arith, root_at))

  pub root_key : (slots wd w₁ e.slot).key ≡ e.key
  root_key = ap (λ (c : Slot ℕ). c.key) p.became.stands.holds.0

  pub root_value : (slots wd w₁ e.slot).value ≡ e.value
  root_value = ap (λ (c : Slot ℕ). c.value) p.became.stands.holds.0

-- The root after a splay.
pub record Root (wd k : ℕ) (t : Tree ℕ) (w w₁ : List ℕ) (x : ℕ) : Type 0 where
  pub e : Entry ℕ
  pub l : Tree ℕ
  pub r : Tree ℕ
  pub is : (splay by_number k t).tree ≡ node e l r
  pub root : AtRoot wd t w w₁ x e l r

-- What a splay ensures of the tree at the link `start`.
module _ (k : ℕ) {wd : ℕ} {w w₁ : List ℕ} {start x n : ℕ} (s : SplayedAt wd k w start w₁ x n) where
  -- The comparisons are few.
  pub brought_few : (t : Tree ℕ) × Few wd w start t → n ≤ 8190
  brought_few (t, f) = omega (arith, (s t f.stands).1, f.few, splay_count by_number k t)

  pub rooted : {t : Tree ℕ} → Stands (edition wd) w start t → (start ≡ 0 → ⊥) → Root wd k t w w₁ x
  rooted {t} h p = by (splay by_number k t).tree refl (splay_real by_number k t (real_link t (omega (arith, h.at, p))))
    where
      by : (u : Tree ℕ) → (splay by_number k t).tree ≡ u → Real u → Root wd k t w w₁ x
      by none q real = absurd real
      by (node e l r) q real =
          record {
            e = e;
            l = l;
            r = r;
            is = q;
            root =
                record {
                  became = subst (λ (u : Tree ℕ). Became wd w w₁ x t u) q (s t h).0;
                  weighs = λ f. ap (λ (u : Tree ℕ). weigh f u) (sym q) ∙ splay_weighs by_number k f t;
                };
          }

  pub brought_in : Width wd → (t : Tree ℕ) × Few wd w start t → (start ≡ 0 → ⊥) → Inside wd w₁ x
  brought_in v (t, f) p = root_inside (rooted f.stands p).root v

  -- The root's key m is the key, or it is not.
  module _ {m a b : ℕ} (p : start ≡ 0 → ⊥) (em : KeyRead (slots wd w₁) x m) (ea : a ≡ m) (eb : b ≡ k) {t : Tree ℕ}
      (h : Stands (edition wd) w start t) where
    pub at : Root wd k t w w₁ x
    at = rooted h p

    root_is : a ≡ at.e.key
    root_is = ea ∙ em at.e.slot (root_at at.root) ∙ root_key at.root

    pub brings : bring (edition wd) k t ≡ met (by_number k at.e.key) at.e at.l at.r (n + 1)
    unfolding bring
    brings =
        ap (λ (u : Tree ℕ). root_met (edition wd) k u (splay by_number k t).count) at.is
        ∙ ap (λ (c : ℕ). met (by_number k at.e.key) at.e at.l at.r c) (omega (arith, (s t h).1))

    pub brought_here : a ≡ b → Meets wd k t w w₁ (record { here = true; root = x; count = n + 1 })
    brought_here e =
        here at.e at.l at.r refl
        (brings ∙ ap (λ (z : Order). met z at.e at.l at.r (n + 1)) (order_from equal k at.e.key (omega (arith, root_is))))
        at.root

    pub brought_beside : (a ≡ b → ⊥) → Meets wd k t w w₁ (record { here = false; root = x; count = n + 1 })
    brought_beside d =
        let (side, o) = apart k at.e.key (λ e. d (omega (arith, root_is))) in
        beside side at.e at.l at.r refl (brings ∙ ap (λ (z : Order). met z at.e at.l at.r (n + 1)) o) at.root

-- On an empty tree there is nobody to meet.
pub meets_nobody : {wd k : ℕ} {w : List ℕ} {x : ℕ} {t : Tree ℕ} → Stands (edition wd) w x t → x ≡ 0
    → Meets wd k t w w (record { here = false; root = 0; count = 0 })
unfolding bring splay walk
meets_nobody {wd} {k} {t = t} h e =
    let z = no_link t (sym h.at ∙ e) in
    no_tree refl refl refl (ap (bring (edition wd) k) z) z refl

-- An answer by its words.
pub worded : {K : Type 0} {number : K → ℕ} {r : Answer K} {c : Code} {k v n : ℕ} → Words number r c k v n
    → Says number r (record { code = code_of c; key = k; value = v; count = n })
worded p = record { code = ap code_of p.code; key = p.key; value = p.value; count = p.count }

-- A key that is not there is absent, whatever was to be done with it.
module _ {wd k : ℕ} (v : Width wd) {h : Head} {st : State ℕ} {w w₁ : List ℕ} {m : Met} (f : Headed wd w h st)
    (present : Entry ℕ → Tree ℕ → Tree ℕ → ℕ → State ℕ → Outcome ℕ) (c : Command ℕ) (u : Moving c)
    (q : perform (edition wd) c st ≡ if_present (edition wd) present (bring (edition wd) k st.tree) st) where
  pub absent : {K : Type 0} {number : K → ℕ} {r : Answer K} → Meets wd k st.tree w w₁ m → m.here ≡ false → Words number r code.Absent 0 0 m.count
      → Obeyed number wd (if_present (edition wd) present (bring (edition wd) k st.tree) st) st w w₁
      (record { answer = r; head = rooted_at h m.root })
  unfolding if_present
  absent (no_tree hh x n b t e) z p =
      obeyed_as (ap (λ (y : M.Met ℕ). if_present (edition wd) present y st) b)
      (let same : rooted_at h m.root ≡ h = λ i. record { root = (x ∙ sym (f.root ∙ ap link_to t)) i; size = h.size; free = h.free } in
      rw (same, e) (stays f (rw n at (worded p))))
  absent (beside s e l r hh b a) z p =
      let y = ap (λ (y : M.Met ℕ). if_present (edition wd) present y st) b in
      obeyed_as y
      (obeys f v c u (q ∙ y) (worded p)
      (omega (arith, f.live, f.fit.low)) (root_wrote f (node e l r) a.became))
  absent (here e l r hh b a) z p = absurd (let y : ◌≡◌ {A = ℕ} 0 1 = cc in omega arith)

-- A key that is there: the root, and what is done there.
pub record Here (wd k : ℕ) (t : Tree ℕ) (w w₁ : List ℕ) (x n : ℕ) : Type 0 where
  pub e : Entry ℕ
  pub l : Tree ℕ
  pub r : Tree ℕ
  pub brought : bring (edition wd) k t ≡ met equal e l r n
  pub root : AtRoot wd t w w₁ x e l r

pub is_here : {wd k : ℕ} {t : Tree ℕ} {w w₁ : List ℕ} {m : Met} → Meets wd k t w w₁ m → m.here ≡ true → Here wd k t w w₁ m.root m.count
is_here (no_tree h x c b t e) z = absurd (let y : ◌≡◌ {A = ℕ} 0 1 = cc in omega arith)
is_here (beside s e l r h b q) z = absurd (let y : ◌≡◌ {A = ℕ} 0 1 = cc in omega arith)
is_here (here e l r h b q) z = record { e = e; l = l; r = r; brought = b; root = q }

-- After `bring`, the root's words are there.
pub here_inside : {wd k : ℕ} {h : Head} {w w₁ : List ℕ} {m : Met} → Somehow wd w h
    → ((t : Tree ℕ) → Stands (edition wd) w h.root t → Meets wd k t w w₁ m) → not m.here ≡ false → Inside wd w₁ m.root
here_inside (st, f, v) b z = root_inside (is_here (b st.tree (tree_stands f)) (not-false _ z)).root v

-- The root's value is replaced.
revalue : {wd : ℕ} → Width wd → {h : Head} {st : State ℕ} {w w₁ w₂ : List ℕ} {x : ℕ} {e : Entry ℕ} {l r : Tree ℕ} → Headed wd w h st → AtRoot wd st.tree w w₁ x e l r → (v : ℕ) → w₂ ≡ set w₁ ((3 + wd) * x + 1) v
    → Wrote wd st (with_tree (node (revalued v e) l r) st) h (rooted_at h x) w w₂
revalue {wd} wide {h} {st} {w} {w₁} {w₂} {x} {e} {l} {r} f p v ew =
    let b = p.became in
    let q = put_at w₁ {w' = w₂} 1 v (root_at p) (root_inside p wide) (omega arith) (omega arith) ew in
    let k₁ = kept_set {w = w₁} {w' = w₂} 1 v (root_inside p wide) ew in
    let same : Same (λ z. hit z e.slot) (slots wd w₁) (slots wd w₂) = λ z y. q.elsewhere z (hit_ne z e.slot y) in
    let out : (z : ℕ) → weigh (λ y. hit z y.slot) st.tree ≡ 0 → slots wd w₂ z ≡ slots wd w z
    = λ z y. same z (omega (arith, p.weighs (λ y. hit z y.slot))) ∙ b.only.same z y in
    record {
      root = root_at p;
      number = refl;
      first = f.first;
      nodes = (
        q.here ∙ ap (with_word 1 v) b.stands.holds.0,
        holds_same same l (λ z y. omega (arith, b.stands.once z)) b.stands.holds.1,
        holds_same same r (λ z y. omega (arith, b.stands.once z)) b.stands.holds.2,
      );
      chain = chain_stays f (slots wd w₂) out;
      only = record { kept = kept_trans b.only.kept k₁; same = λ z y. out z (omega arith) };
    }

module _ {wd k : ℕ} (wide : Width wd) {h : Head} {st : State ℕ} {w w₁ : List ℕ} {x n : ℕ} (f : Headed wd w h st) (p : Here wd k st.tree w w₁ x n)
    {K : Type 0} {number : K → ℕ} {r : Answer K} where
  says_root : (c : Code) → Words number r c (slots wd w₁ p.e.slot).key (slots wd w₁ p.e.slot).value n
      → Says number r (record { code = code_of c; key = p.e.key; value = p.e.value; count = n })
  says_root c a = rw (root_key p.root, root_value p.root) at (worded a)

  -- What get and write if present come to, by an answer in the words of the root's slot.
  pub found_here : Words number r code.Found (slots wd w₁ p.e.slot).key (slots wd w₁ p.e.slot).value n
      → Obeyed number wd (perform (edition wd) (get k) st) st w w₁ (record { answer = r; head = rooted_at h x })
  unfolding perform if_present
  found_here a =
      let q = ap (λ (q : M.Met ℕ). if_present (edition wd) (found (edition wd)) q st) p.brought in
      obeyed_as q
      (obeys f wide (get k) tt q (says_root code.Found a)
      (omega (arith, f.live, f.fit.low)) (root_wrote f (node p.e p.l p.r) p.root.became))

  pub replaced_here : Words number r code.Replaced (slots wd w₁ p.e.slot).key (slots wd w₁ p.e.slot).value n
      → (c : Command ℕ) → Moving c → (v : ℕ) (w₂ : List ℕ) → w₂ ≡ set w₁ ((3 + wd) * x + 1) v
      → perform (edition wd) c st ≡ replaced (edition wd) v p.e p.l p.r n st
      → Obeyed number wd (perform (edition wd) c st) st w w₂ (record { answer = r; head = rooted_at h x })
  replaced_here a c u v w₂ ew q =
      obeyed_as q
      (obeys f wide c u q (says_root code.Replaced a)
      (omega (arith, f.live, f.fit.low)) (revalue wide f p.root v ew))

  pub written_here : Words number r code.Replaced (slots wd w₁ p.e.slot).key (slots wd w₁ p.e.slot).value n
      → (v : ℕ) (w₂ : List ℕ) → w₂ ≡ set w₁ ((3 + wd) * x + 1) v
      → Obeyed number wd (perform (edition wd) (write k v) st) st w w₂ (record { answer = r; head = rooted_at h x })
  unfolding perform if_present
  written_here a v w₂ ew =
      replaced_here a (write k v) tt v w₂ ew (ap (λ (q : M.Met ℕ). if_present (edition wd) (replaced (edition wd) v) q st) p.brought)
