-- A node leaves the tree and its slot goes to the front of the chain: what remove and the takes come to.
use mathlib.Core.Bool.{not, false}
use mathlib.Core.List.{List}
use mathlib.Core.Path.{◌≡◌, refl, sym, ap, ◌∙◌, subst}
use Prim.Native.Nat.{ℕ, suc, ◌+◌, ◌*◌, ◌-◌, ◌≤◌}
use native.Mathlib.Omega.{arith}
use Rattle.std.proofs.lemmas.Bool.{not-false}
use Rattle.rules.specs.Order.{by_number}
use Rattle.rules.specs.Edition.{edition, Width}
use Rattle.rules.specs.Command.{remove}
use Rattle.rules.specs.Tree.{Tree, none, node, times, size, hit, link_to}
use Rattle.rules.specs.Splay.{splay}
use Rattle.rules.specs.Perform as M
use Rattle.rules.specs.Perform.{State, Outcome, freeing, if_present, bring, removed, perform}
use Rattle.rules.specs.Arena.{Holds, free_slot}
use Rattle.rules.proofs.Hit.{hit_same}
use Rattle.rules.proofs.Order.{edition_lawful}
use Rattle.rules.proofs.Splay.{splay_count}
use Rattle.rules.proofs.Held.{holds_frame}
use Rattle.rules.proofs.Kept.{Moved, perform_moved}
use Rattle.node.specs.Stands.{Stands, Inside, Changed, Filled}
use Rattle.node.proofs.Words.{slots, kept_trans, inside_kept}
use Rattle.splay.specs.Moves.{Became, root_gone}
use Rattle.heads.specs.Headed.{Headed, Somehow, Obeyed}
use Rattle.heads.specs.Slots.{Wrote}
use Rattle.heads.specs.Worded.{Words}
use Rattle.heads.specs.declared.answer.Answer.{Answer}
use Rattle.heads.specs.declared.answer.Code.TheVariants as code
use Rattle.heads.specs.declared.head.Head.{Head}
use Rattle.heads.proofs.Heads.{obeyed_as, rooted_at, tree_stands, chain_stays, obeys}
use Rattle.lookups.specs.declared.lookup.Met.{Met}
use Rattle.lookups.specs.Met.{Meets}
use Rattle.lookups.proofs.Present.{worded, Here, is_here, here_inside, root_at, root_key, root_value}

-- The slot s, one of the tree's, is released; u is what is left of the tree, and stands at the link z.
module _ {wd : ℕ} {st : State ℕ} {h : Head} {w w₁ w₂ : List ℕ} (g : Headed wd w h st) (s x z : ℕ) (u : Tree ℕ)
    (c : Changed (edition wd) (λ x. times x st.tree) w w₁) (hu : Holds (slots wd w₁) u) (ez : z ≡ link_to u) (ex : x ≡ suc s)
    (r : Filled wd x (free_slot (edition wd) h.free) w₁ w₂) (one : 1 ≤ times s st.tree) (m : Moved st (freeing s u st)) where
  -- A slot that is not the released one.
  stays : (y : ℕ) → (y ≡ s → ⊥) → slots wd w₂ y ≡ slots wd w₁ y
  stays y d = r.elsewhere y (λ q. d (omega arith))

  -- A slot outside the tree is as it was.
  outside : (y : ℕ) → times y st.tree ≡ 0 → slots wd w₂ y ≡ slots wd w y
  outside y q = stays y (λ p. (let n : times s st.tree ≡ 0 = ap (λ (i : ℕ). times i st.tree) (sym p) ∙ q in omega arith)) ∙ c.same y q

  pub release : Wrote wd st (freeing s u st) h (record { root = z; size = h.size - 1; free = x }) w w₂
  release =
      record {
        root = ez;
        number = omega (arith, m.number, g.live);
        first = ex;
        nodes =
            holds_frame (slots wd w₂) (slots wd w₁) u
            (λ y p. stays y (λ q. (let n : times s u ≡ times y u = ap (λ (i : ℕ). times i u) (sym q) in
            omega (arith, m.each s, g.fit.once s, hit_same s)))) hu;
        chain = (r.here s ex ∙ ap (free_slot (edition wd)) g.first, chain_stays g (slots wd w₂) outside);
        only = record { kept = kept_trans c.kept r.kept; same = λ y q. outside y (omega arith) };
      }

-- How many comparisons bringing a key to the root takes at most.
abbrev count_of : M.Met ℕ → ℕ
count_of M.nobody = 0
count_of (M.met o e l r n) = n

met_count : (wd k : ℕ) (t : Tree ℕ) (n : ℕ) → count_of (M.root_met (edition wd) k t n) ≤ suc n
met_count wd k none n = omega arith
met_count wd k (node e l r) n = omega arith

bring_count : (wd k : ℕ) (t : Tree ℕ) → count_of (bring (edition wd) k t) ≤ suc (2 * size t)
unfolding bring
bring_count wd k t = omega (arith, met_count wd k (splay by_number k t).tree (splay by_number k t).count, splay_count by_number k t)

-- 6 remove: the root goes.
module _ {wd k : ℕ} {st : State ℕ} {h : Head} {w w₁ : List ℕ} {x n : ℕ} (f : Headed wd w h st) (p : Here wd k st.tree w w₁ x n) where
  abbrev pub whole : Tree ℕ
  whole = node p.e p.l p.r

  pub here_stands : Stands (edition wd) w₁ x whole
  here_stands = p.root.became.stands

  -- The comparisons of both splays fit a word.
  few_here : (m : ℕ) → m ≡ (root_gone by_number k whole).count → n + m ≤ 16380
  few_here m em =
      omega (
        arith,
        bring_count wd k st.tree,
        ap count_of p.brought,
        f.fit.low,
        f.fit.in_range,
        splay_count by_number k p.l,
        p.root.weighs (λ e. 1),
      )

  removed_as : {K : Type 0} {number : K → ℕ} {a : Answer K} → Width wd → (w₂ w₃ : List ℕ) (top m : ℕ) → Became wd w₁ w₂ top whole (root_gone by_number k whole).tree × (m ≡ (root_gone by_number k whole).count)
      → Filled wd x (free_slot (edition wd) h.free) w₂ w₃
      → Words number a code.Removed (slots wd w₁ p.e.slot).key (slots wd w₁ p.e.slot).value (n + m)
      → Obeyed number wd (perform (edition wd) (remove k) st) st w w₃ (record { answer = a; head = record { root = top; size = h.size - 1; free = x } })
  unfolding perform if_present
  removed_as v w₂ w₃ top m (b, em) r a =
      let q = ap (λ (y : M.Met ℕ). if_present (edition wd) (removed (edition wd) k) y st) p.brought in
      let d = subst (λ (y : Outcome ℕ). Moved st y.state) q (perform_moved (edition wd) (edition_lawful v) (remove k) tt st f.fit) in
      let c : Changed (edition wd) (λ y. times y st.tree) w w₂ =
      record {
        kept = kept_trans p.root.became.only.kept b.only.kept;
        same = λ y z. b.only.same y (omega (arith, p.root.weighs (λ e. hit y e.slot))) ∙ p.root.became.only.same y z;
      } in
      obeyed_as q
      (obeys f v (remove k) tt q
      (rw (root_key p.root, root_value p.root, em) at (worded a))
      (omega (arith, f.live, f.fit.low))
      (release f p.e.slot x top (root_gone by_number k whole).tree c b.stands.holds b.stands.at (root_at p.root) r
      (omega (arith, p.root.weighs (λ e. hit p.e.slot e.slot), hit_same p.e.slot)) d))

-- What remove comes to, where the key is there.
module _ {wd k : ℕ} {h : Head} {w w₁ : List ℕ} {m : Met} (b : (t : Tree ℕ) → Stands (edition wd) w h.root t → Meets wd k t w w₁ m) (z : not m.here ≡ false) where
  there : {st : State ℕ} → Headed wd w h st → Here wd k st.tree w w₁ m.root m.count
  there {st} f = is_here (b st.tree (tree_stands f)) (not-false _ z)

  module _ {w₂ : List ℕ} {top n : ℕ} (g : (t : Tree ℕ) → Stands (edition wd) w₁ m.root t → Became wd w₁ w₂ top t (root_gone by_number k t).tree × (n ≡ (root_gone by_number k t).count)) where
    pub still_there : Somehow wd w h → Inside wd w₂ m.root
    still_there (st, f, v) = inside_kept (g (whole f (there f)) (here_stands f (there f))).0.only.kept (here_inside (st, f, v) b z)

    pub counts_few : Somehow wd w h → m.count + n ≤ 16380
    counts_few (st, f, v) = few_here f (there f) n (g (whole f (there f)) (here_stands f (there f))).1

    pub removed_here : {K : Type 0} {number : K → ℕ} {a : Answer K} {st : State ℕ} {w₃ : List ℕ} {h₁ h' : Head} → Width wd → Headed wd w h st
        → h₁ ≡ rooted_at h top → Filled wd m.root (free_slot (edition wd) h₁.free) w₂ w₃ → h' ≡ record { root = h₁.root; size = h₁.size - 1; free = m.root }
        → ((s : ℕ) → m.root ≡ suc s → Words number a code.Removed (slots wd w₁ s).key (slots wd w₁ s).value m.count)
        → Obeyed number wd (perform (edition wd) (remove k) st) st w w₃
        (record { answer = record { code = a.code; key = a.key; value = a.value; count = m.count + n }; head = h' })
    removed_here v f e r eh a =
        let p = there f in
        let q = a p.e.slot (root_at p.root) in
        rw (eh, e)
        (removed_as f p v w₂ _ top n (g (whole f p) (here_stands f p)) (rw e at r) (record { code = q.code; key = q.key; value = q.value; count = refl }))
