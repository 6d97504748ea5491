-- 5 insert: the key is there, or there is no room, or its node is the new root.
use mathlib.Core.Bool.{false}
use mathlib.Core.List.{List, ◌∷◌}
use mathlib.Core.Path.{◌≡◌, refl, sym, ap, ◌∙◌, subst}
use Prim.Native.Nat.{ℕ, ◌+◌, ◌*◌}
use native.Mathlib.Omega.{arith}
use lib.ListN.{set}
use borrow.Author.Tests.{eq-eqb, ne_eqb}
use Rattle.rules.specs.Order.{Side, Order, equal, toward, by_number}
use Rattle.rules.specs.Edition.{edition, Width}
use Rattle.rules.specs.Command.{get, insert}
use Rattle.rules.specs.Tree.{Entry, Tree, none, node, hit, size, link_to}
use Rattle.rules.specs.Splay.{splay}
use Rattle.rules.specs.Perform as M
use Rattle.rules.specs.Perform.{State, full, in_slot, first_of, with_tree, taking, room, new_root, bring, found, if_present, inserted, perform}
use Rattle.rules.proofs.Order.{order_from}
use Rattle.node.proofs.Words.{slots, kept_trans}
use Rattle.heads.specs.Headed.{Headed, Obeyed}
use Rattle.heads.specs.Slots.{Wrote}
use Rattle.heads.specs.Worded.{Words}
use Rattle.heads.specs.declared.answer.Answer.{Answer}
use Rattle.heads.specs.declared.answer.Code.TheVariants as code
use Rattle.heads.specs.declared.head.Head.{Head}
use Rattle.heads.proofs.Heads.{obeyed_as, rooted_at, stays, obeys, root_wrote}
use Rattle.lookups.specs.Met.{AtRoot, Meets, no_tree, beside, here}
use Rattle.lookups.specs.declared.lookup.Met.{Met}
use Rattle.lookups.proofs.Present.{worded, absent, Here, replaced_here, root_at, root_key}
use Rattle.changes.specs.Grown.{with_root, Rootless, Grew}
use Rattle.changes.proofs.Grow.{chosen}

-- What is written after a splay is written from the first words.
then_wrote : {wd : ℕ} {w w₁ w₂ : List ℕ} {h h' : Head} {st st' : State ℕ} {x : ℕ} {e : Entry ℕ} {l r : Tree ℕ}
    → AtRoot wd st.tree w w₁ x e l r
    → Wrote wd (with_tree (node e l r) st) st' (rooted_at h x) h' w₁ w₂ → Wrote wd st st' h h' w w₂
then_wrote {st = st} a p =
    record {
      root = p.root;
      number = p.number;
      first = p.first;
      nodes = p.nodes;
      chain = p.chain;
      only =
          record {
            kept = kept_trans a.became.only.kept p.only.kept;
            same = λ s z. p.only.same s (omega (arith, a.weighs (λ y. hit s y.slot))) ∙ a.became.only.same s (omega arith);
          };
    }

-- What meeting a root says of the key and the root's.
abbrev order_met : ℕ → M.Met ℕ → Order
order_met k M.nobody = by_number k 0
order_met k (M.met o e l r n) = o

abbrev key_met : M.Met ℕ → ℕ
key_met M.nobody = 0
key_met (M.met o e l r n) = e.key

met_order : (wd k : ℕ) (t : Tree ℕ) (n : ℕ) → order_met k (M.root_met (edition wd) k t n) ≡ by_number k (key_met (M.root_met (edition wd) k t n))
met_order wd k none n = refl
met_order wd k (node e l r) n = refl

bring_order : (wd k : ℕ) (t : Tree ℕ) (o : Order) (e : Entry ℕ) (l r : Tree ℕ) (n : ℕ) → bring (edition wd) k t ≡ M.met o e l r n → by_number k e.key ≡ o
unfolding bring
bring_order wd k t o e l r n q =
    ap (λ (m : M.Met ℕ). by_number k (key_met m)) (sym q)
    ∙ sym (met_order wd k (splay by_number k t).tree (splay by_number k t).count)
    ∙ ap (order_met k) q

room_full : (st : State ℕ) → size st.tree ≡ st.slots → room st ≡ full
unfolding room
room_full st e = rw (eq-eqb (size st.tree) st.slots e)

room_free : (st : State ℕ) (x : ℕ) (more : List ℕ) → (size st.tree ≡ st.slots → ⊥) → st.free ≡ x ∷ more → room st ≡ in_slot x more
unfolding room
room_free st x more n e = rw (ne_eqb (size st.tree) st.slots n) (ap first_of e)

never : {A : Type 0} {s : Side} (o : Order) → o ≡ toward s → o ≡ equal → A
never o p q = absurd (let z : ◌≡◌ {A = ℕ} 0 1 = cc in omega arith)

rebased : {wd : ℕ} {h h' : Head} {x : ℕ} {st st' : State ℕ} {w w' : List ℕ} → Wrote wd st st' (rooted_at h x) h' w w' → Wrote wd st st' h h' w w'
rebased p = record { root = p.root; number = p.number; first = p.first; nodes = p.nodes; chain = p.chain; only = p.only }

module _ {wd : ℕ} (wide : Width wd) {k : ℕ} {h : Head} {st : State ℕ} {w : List ℕ} (f : Headed wd w h st) where
  -- The key is there: its value is replaced.
  pub insert_here : (v : ℕ) {K : Type 0} {number : K → ℕ} {w₁ : List ℕ} {x n : ℕ} {r : Answer K} {w₂ : List ℕ} (p : Here wd k st.tree w w₁ x n)
      → Words number r code.Replaced (slots wd w₁ p.e.slot).key (slots wd w₁ p.e.slot).value n → w₂ ≡ set w₁ ((3 + wd) * x + 1) v
      → Obeyed number wd (perform (edition wd) (insert k v) st) st w w₂ (record { answer = r; head = rooted_at h x })
  unfolding perform inserted
  insert_here v p a e =
      replaced_here wide f p a (insert k v) tt v _ e (ap (λ (z : M.Met ℕ). inserted (edition wd) k v z (room st) st) p.brought)

  -- After the splay, where the key is not there, the state stands under the head with the new root: as get leaves it.
  module _ {w₁ : List ℕ} {m : Met} (p : Meets wd k st.tree w w₁ m) (z : m.here ≡ false) where
    pub not_here : Headed wd w₁ (rooted_at h m.root) (if_present (edition wd) (found (edition wd)) (bring (edition wd) k st.tree) st).state
    unfolding perform
    not_here =
        (absent wide f (found (edition wd)) (get k) tt refl {number = λ (k : ℕ). k} {r = record { code = code.Absent; key = 0; value = 0; count = m.count }} p z
        (record { code = refl; key = refl; value = refl; count = refl })).headed

    headed_as : (b : M.Met ℕ) → bring (edition wd) k st.tree ≡ b → Headed wd w₁ (rooted_at h m.root) (if_present (edition wd) (found (edition wd)) b st).state
    headed_as b q = subst (λ (y : M.Met ℕ). Headed wd w₁ (rooted_at h m.root) (if_present (edition wd) (found (edition wd)) y st).state) q not_here

  root_other : {w₁ : List ℕ} {x n : ℕ} (s : Side) (e : Entry ℕ) (l r : Tree ℕ) → bring (edition wd) k st.tree ≡ M.met (toward s) e l r n → AtRoot wd st.tree w w₁ x e l r → Rootless wd k w₁ (rooted_at h x)
  root_other {w₁} {x} {n} s e l r b q z p y =
      never (by_number k e.key) (bring_order wd k st.tree (toward s) e l r n b)
      (order_from equal k e.key (y ∙ ap (λ (i : ℕ). (slots wd w₁ i).key) (omega (arith, root_at q)) ∙ root_key q))

  -- There is no room.
  pub insert_full : (v : ℕ) {K : Type 0} {number : K → ℕ} {w₁ : List ℕ} {m : Met} {r : Answer K} → Meets wd k st.tree w w₁ m → m.here ≡ false → h.size ≡ st.slots → Words number r code.Full 0 0 m.count
      → Obeyed number wd (perform (edition wd) (insert k v) st) st w w₁ (record { answer = r; head = rooted_at h m.root })
  unfolding perform inserted if_present
  insert_full v {w₁ = w₁} {m} (no_tree hh x c b t e) z n a =
      let o = room_full st (sym f.live ∙ n) in
      let q = ap (λ (y : M.Met ℕ). inserted (edition wd) k v y (room st) st) b ∙ ap (λ (y : M.Room). inserted (edition wd) k v M.nobody y st) o in
      obeyed_as q
      (let same : rooted_at h m.root ≡ h = λ i. record { root = (x ∙ sym (f.root ∙ ap link_to t)) i; size = h.size; free = h.free } in
      rw (same, e) (stays f (rw c at (worded a))))
  insert_full v {m = m} (beside s e l r hh b y) z n a =
      let o = room_full st (sym f.live ∙ n) in
      let q =
      ap (λ (y : M.Met ℕ). inserted (edition wd) k v y (room st) st) b
      ∙ ap (λ (y : M.Room). inserted (edition wd) k v (M.met (toward s) e l r m.count) y st) o in
      obeyed_as q
      (obeys f wide (insert k v) tt q (worded a)
      (omega (arith, f.live, f.fit.low)) (root_wrote f (node e l r) y.became))
  insert_full v (here e l r hh b q) z n a = absurd (let y : ◌≡◌ {A = ℕ} 0 1 = cc in omega arith)

  -- Its node is the new root.
  pub insert_new : {K : Type 0} {number : K → ℕ} {v : ℕ} {w₁ : List ℕ} {m : Met} {r : Answer K} {w₂ : List ℕ} {h' : Head} → Meets wd k st.tree w w₁ m → m.here ≡ false → (h.size ≡ st.slots → ⊥)
      → ((u : State ℕ) → Headed wd w₁ (rooted_at h m.root) u → Rootless wd k w₁ (rooted_at h m.root) → Grew wd k v u (rooted_at h m.root) w₁ w₂ h')
      → Words number r code.New k 0 m.count
      → Obeyed number wd (perform (edition wd) (insert k v) st) st w w₂ (record { answer = r; head = h' })
  unfolding perform inserted if_present
  insert_new {v = v} {w₁} {m} {w₂ = w₂} {h'} (no_tree hh x c b t e) z n grows a =
      let g = grows st (headed_as (no_tree hh x c b t e) z M.nobody b) (λ s y q. absurd (omega (arith, x))) in
      let new : Entry ℕ = record { slot = g.slot; key = k; value = v } in
      let o = room_free st g.slot g.more (λ y. n (f.live ∙ y)) g.was in
      let q = ap (λ (y : M.Met ℕ). inserted (edition wd) k v y (room st) st) b ∙ ap (λ (y : M.Room). inserted (edition wd) k v M.nobody y st) o in
      obeyed_as q
      (obeys f wide (insert k v) tt q (rw c at (worded a))
      (omega (arith, g.bigger, f.live, f.fit.low, n))
      (subst (λ (u : List ℕ). Wrote wd st (taking (node new none none) g.more st) h h' u w₂) e
      (rebased (subst (λ (u : Tree ℕ). Wrote wd st (taking (with_root new u) g.more st) (rooted_at h m.root) h' w₁ w₂) t g.wrote))))
  insert_new {v = v} {w₁} {m} {w₂ = w₂} {h'} (beside s e l r hh b y) z n grows a =
      let g = grows (with_tree (node e l r) st) (headed_as (beside s e l r hh b y) z (M.met (toward s) e l r m.count) b) (root_other s e l r b y) in
      let new : Entry ℕ = record { slot = g.slot; key = k; value = v } in
      let o = room_free st g.slot g.more (λ u. n (f.live ∙ u)) g.was in
      let q =
      ap (λ (x : M.Met ℕ). inserted (edition wd) k v x (room st) st) b
      ∙ ap (λ (x : M.Room). inserted (edition wd) k v (M.met (toward s) e l r m.count) x st) o in
      obeyed_as q
      (obeys f wide (insert k v) tt q (worded a)
      (omega (arith, g.bigger, f.live, f.fit.low, n))
      (then_wrote y
      (subst (λ (u : Tree ℕ). Wrote wd (with_tree (node e l r) st) (taking u g.more st) (rooted_at h m.root) h' w₁ w₂) (chosen s new e l r (bring_order wd k st.tree (toward s) e l r m.count b)) g.wrote)))
  insert_new (here e l r hh b q) z n grows a = absurd (let y : ◌≡◌ {A = ℕ} 0 1 = cc in omega arith)
