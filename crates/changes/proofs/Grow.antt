-- A new node becomes the root, for either side: what insert of a new key comes to.
use mathlib.Core.List.{List, [], ◌∷◌}
use mathlib.Core.Path.{◌≡◌, refl, sym, ap, ◌∙◌, subst}
use Prim.Native.Nat.{ℕ, suc, ◌+◌, ◌*◌, ◌-◌, ◌≤◌, ◌<◌}
use native.Mathlib.Omega.{arith}
use lib.ListN.{length, get_or, set}
use Rattle.rules.specs.Order.{Side, left, right, other, toward, by_number}
use Rattle.rules.specs.Edition.{edition, Width}
use Rattle.rules.specs.Tree.{Entry, Tree, none, node, fork, hit, times, link_to}
use Rattle.rules.specs.Perform.{State, taking, new_root}
use Rattle.rules.specs.Arena.{Slot, Holds, Chained, free_slot, first_link, listed}
use Rattle.rules.proofs.Hit.{hit_same}
use Rattle.rules.proofs.Order.{order_from}
use Rattle.rules.proofs.Splay.{weigh_fork}
use Rattle.rules.proofs.Held.{chained_frame, holds_frame}
use Rattle.node.specs.Stands.{off, Kept, Inside, Filled}
use Rattle.node.proofs.Memory.{on, link_on, on_near, fork_link, fork_held, held_fork, no_link, Relinked, relinked_near, relinked_far}
use Rattle.node.proofs.Words.{slots, link_word, relinked_at, kept_trans, inside_kept, kept_set}
use Rattle.splay.proofs.Standing.{root_in}
use Rattle.splay.proofs.Tagged.{right_of}
use Rattle.splay.proofs.Walk.{KeyRead}
use Rattle.heads.specs.Headed.{Headed, Somehow}
use Rattle.heads.specs.Slots.{Wrote}
use Rattle.heads.specs.declared.head.Head.{Head}
use Rattle.heads.proofs.Heads.{tree_stands}
use Rattle.changes.specs.Grown.{crowned, with_root, Rootless, Grew}

-- The free chain's first slot.
pub record Free (wd : ℕ) (st : State ℕ) (w : List ℕ) (h : Head) : Type 0 where
  pub slot : ℕ
  pub more : List ℕ
  pub is : st.free ≡ slot ∷ more
  pub first : h.free ≡ suc slot
  pub inside : Inside wd w h.free
  pub apart : times slot st.tree ≡ 0
  pub once : listed slot more ≡ 0
  pub next : slots wd w slot ≡ free_slot (edition wd) (first_link more)
  pub rest : Chained (edition wd) (slots wd w) more
  pub off : (s : ℕ) → 1 ≤ listed s more → times s st.tree ≡ 0
  pub listing : (s : ℕ) → listed s st.free ≡ hit s slot + listed s more

pub free_there : {wd : ℕ} {w : List ℕ} {h : Head} {st : State ℕ} → Width wd → Headed wd w h st → 0 < h.free → Free wd st w h
free_there {wd} {w} {h} {st} v f n = by st.free refl
  where
    by : (c : List ℕ) → st.free ≡ c → Free wd st w h
    by [] e = absurd (omega (arith, f.first, ap first_link e))
    by (x ∷ more) e =
        let chain : Chained (edition wd) (slots wd w) (x ∷ more) = subst (Chained (edition wd) (slots wd w)) e f.chain in
        let all : (s : ℕ) → listed s st.free ≡ hit s x + listed s more = λ s. ap (listed s) e in
        let first : h.free ≡ suc x = f.first ∙ ap first_link e in
        record {
          slot = x;
          more = more;
          is = e;
          first = first;
          inside = (let i = f.inside x (omega (arith, all x, hit_same x)) in rw first (omega arith));
          apart = omega (arith, all x, hit_same x, f.fit.once x);
          once = omega (arith, all x, hit_same x, f.fit.once x);
          next = chain.0;
          rest = chain.1;
          off = λ s p. omega (arith, all s, f.fit.once s);
          listing = all;
        }

-- The head where a node in the first free slot is the root.
abbrev pub grown : Head → ℕ → Head
grown h next = record { root = h.free; size = h.size + 1; free = next }

-- The first node.
pub first_root : {wd : ℕ} {w w₁ : List ℕ} {h : Head} {st : State ℕ} (k v next : ℕ) (f : Headed wd w h st) (c : Free wd st w h) → next ≡ get_or w ((3 + wd) * h.free + 2) 0
    → Filled wd h.free (record { key = k; value = v; left = 0; right = 0 }) w w₁
    → Wrote wd st (taking (node (record { slot = c.slot; key = k; value = v }) none none) c.more st) h (grown h next) w w₁
first_root {wd} {w} {w₁} {h} {st} k v next f c en t =
    let stays : (s : ℕ) → (s ≡ c.slot → ⊥) → slots wd w₁ s ≡ slots wd w s = λ s d. t.elsewhere s (λ q. d (omega (arith, c.first))) in
    record {
      root = c.first;
      number = omega (arith, ap length c.is);
      first = en ∙ link_word left wd w h.free c.slot c.first ∙ ap (λ (q : Slot ℕ). q.left) c.next;
      nodes = (t.here c.slot c.first, tt, tt);
      chain = chained_frame (edition wd) (slots wd w₁) (slots wd w) c.more (λ s p. stays s (λ q. (let y = ap (λ (u : ℕ). listed u c.more) q in omega (arith, c.once)))) c.rest;
      only =
          record {
            kept = t.kept;
            same = λ s z. stays s (λ q. (let y = ap (λ (u : ℕ). hit u c.slot) q in omega (arith, c.listing s, hit_same c.slot)));
          };
    }

bare_on : (d : Side) (e : Entry ℕ) → on d e 0 0 ≡ record { key = e.key; value = e.value; left = 0; right = 0 }
bare_on left e = refl
bare_on right e = refl

-- The new node beside the old root e, whose child on the side d of the key is `near`.
module _ {wd : ℕ} (wide : Width wd) (d : Side) {w w₁ w₂ : List ℕ} {h : Head} {st : State ℕ} (k v next : ℕ) (e : Entry ℕ) (near far : Tree ℕ) (f : Headed wd w h st) (c : Free wd st w h)
    (tree : st.tree ≡ fork d e near far) (en : next ≡ get_or w ((3 + wd) * h.free + 2) 0) (t : Filled wd h.free (record { key = k; value = v; left = 0; right = 0 }) w w₁)
    (ew : w₂ ≡ crowned wd (off d) (off (other d)) w₁ h.root h.free) where
  abbrev root : ℕ
  root = h.root

  abbrev x : ℕ
  x = h.free

  abbrev new : Entry ℕ
  new = record { slot = c.slot; key = k; value = v }

  counts : (s : ℕ) → times s st.tree ≡ hit s e.slot + (times s near + times s far)
  counts s = ap (λ (u : Tree ℕ). times s u) tree ∙ weigh_fork (λ e. hit s e.slot) d e near far

  old_at : root ≡ suc e.slot
  old_at = f.root ∙ ap link_to tree ∙ fork_link d e near far

  new_at : x ≡ suc c.slot
  new_at = c.first

  two : c.slot ≡ e.slot → ⊥
  two q = omega (arith, c.apart, counts c.slot, ap (λ (u : ℕ). hit u e.slot) q, hit_same e.slot)

  old_in : Inside wd w₁ root
  old_in = inside_kept t.kept (root_in st.tree wide (tree_stands f) (omega (arith, old_at)))

  x_in : Inside wd w₁ x
  x_in = inside_kept t.kept c.inside

  abbrev near_link : ℕ
  near_link = get_or w₁ ((3 + wd) * root + off d) 0

  abbrev a : List ℕ
  a = set w₁ ((3 + wd) * x + off d) near_link

  abbrev b : List ℕ
  b = set a ((3 + wd) * x + off (other d)) root

  abbrev g : List ℕ
  g = set b ((3 + wd) * root + off d) 0

  kept_a : Kept w₁ a
  kept_a = kept_set (off d) near_link x_in refl

  kept_b : Kept w₁ b
  kept_b = kept_trans kept_a (kept_set (off (other d)) root (inside_kept kept_a x_in) refl)

  kept_g : Kept w₁ g
  kept_g = kept_trans kept_b (kept_set (off d) 0 (inside_kept kept_b old_in) refl)

  one : Relinked d c.slot near_link (slots wd w₁) (slots wd a)
  one = relinked_at d w₁ {w' = a} near_link new_at x_in refl

  second : Relinked (other d) c.slot root (slots wd a) (slots wd b)
  second = relinked_at (other d) a {w' = b} root new_at (inside_kept kept_a x_in) refl

  last : Relinked d e.slot 0 (slots wd b) (slots wd g)
  last = relinked_at d b {w' = g} 0 old_at (inside_kept kept_b old_in) refl

  held : Holds (slots wd w) (fork d e near far)
  held = subst (Holds (slots wd w)) tree f.nodes

  root_was : slots wd w₁ e.slot ≡ on d e (link_to near) (link_to far)
  root_was = t.elsewhere e.slot (λ q. two (omega (arith, new_at))) ∙ (held_fork d (slots wd w) e near far held).0

  near_is : near_link ≡ link_to near
  near_is = link_word d wd w₁ root e.slot old_at ∙ ap (link_on d) root_was ∙ on_near d e (link_to near) (link_to far)

  same : (s : ℕ) → slots wd w₂ s ≡ slots wd g s
  same s = ap (λ (u : List ℕ). slots wd u s) ew

  -- A slot that is neither is as it was.
  stays : (s : ℕ) → (s ≡ c.slot → ⊥) → (s ≡ e.slot → ⊥) → slots wd w₂ s ≡ slots wd w s
  stays s p q =
      same s ∙ last.elsewhere s q ∙ second.elsewhere s p ∙ one.elsewhere s p ∙ t.elsewhere s (λ y. p (omega (arith, new_at)))

  new_holds : slots wd w₂ c.slot ≡ on d new (link_to near) (suc e.slot)
  new_holds =
      same c.slot
      ∙ last.elsewhere c.slot two
      ∙ relinked_far d new near_link 0 second (relinked_near new 0 0 one (t.here c.slot new_at ∙ sym (bare_on d new)))
      ∙ ap (λ (y : ℕ). on d new y root) near_is
      ∙ ap (λ (y : ℕ). on d new (link_to near) y) old_at

  old_holds : slots wd w₂ e.slot ≡ on d e 0 (link_to far)
  old_holds =
      let n : e.slot ≡ c.slot → ⊥ = λ q. two (sym q) in
      same e.slot ∙ relinked_near e _ _ last (second.elsewhere e.slot n ∙ one.elsewhere e.slot n ∙ root_was)

  not_new : (s : ℕ) → 1 ≤ times s st.tree → s ≡ c.slot → ⊥
  not_new s p q = omega (arith, c.apart, ap (λ (u : ℕ). times u st.tree) q)

  -- A subtree stays.
  sub_stays : (u : Tree ℕ) → Holds (slots wd w) u → ((s : ℕ) → times s u + hit s e.slot ≤ times s st.tree) → Holds (slots wd w₂) u
  sub_stays u h n =
      holds_frame (slots wd w₂) (slots wd w) u
      (λ s p.
      stays s (not_new s (omega (arith, n s)))
      (λ q. omega (arith, n s, f.fit.once s, ap (λ (y : ℕ). hit y e.slot) q, hit_same e.slot)))
      h

  pub crown : Wrote wd st (taking (fork d new near (fork d e none far)) c.more st) h (grown h next) w w₂
  crown =
      let (m, hn, hf) = held_fork d (slots wd w) e near far held in
      record {
        root = new_at ∙ sym (fork_link d new near (fork d e none far));
        number = omega (arith, ap length c.is);
        first = en ∙ link_word left wd w x c.slot new_at ∙ ap (λ (q : Slot ℕ). q.left) c.next;
        nodes =
            fork_held d (slots wd w₂) new near (fork d e none far)
            (new_holds ∙ ap (λ (y : ℕ). on d new (link_to near) y) (sym (fork_link d e none far)))
            (sub_stays near hn (λ s. omega (arith, counts s)))
            (fork_held d (slots wd w₂) e none far old_holds tt (sub_stays far hf (λ s. omega (arith, counts s))));
        chain =
            chained_frame (edition wd) (slots wd w₂) (slots wd w) c.more
            (λ s p.
            stays s (λ q. (let y = ap (λ (u : ℕ). listed u c.more) q in omega (arith, c.once)))
            (λ q. omega (arith, c.off s p, counts s, ap (λ (y : ℕ). hit y e.slot) q, hit_same e.slot)))
            c.rest;
        only =
            record {
              kept = kept_trans t.kept (subst (λ (u : List ℕ). Kept w₁ u) (sym ew) kept_g);
              same = λ s z.
                  stays s (λ q. (let y = ap (λ (u : ℕ). hit u c.slot) q in omega (arith, c.listing s, hit_same c.slot)))
                  (λ q. omega (arith, counts s, ap (λ (y : ℕ). hit y e.slot) q, hit_same e.slot));
            };
      }

-- The old root's words and the new node's are there once the slot is filled.
pub both_in : {wd : ℕ} {w w₁ : List ℕ} {h : Head} {t : Slot ℕ} → Somehow wd w h → 0 < h.free → Filled wd h.free t w w₁ → (h.root ≡ 0 → ⊥)
    → Inside wd w₁ h.root × Inside wd w₁ h.free
both_in (st, f, v) n t z = (inside_kept t.kept (root_in st.tree v (tree_stands f) (omega (arith, z))), inside_kept t.kept (free_there v f n).inside)

pub chosen : (s : Side) (x e : Entry ℕ) (l r : Tree ℕ) → by_number x.key e.key ≡ toward s → with_root x (node e l r) ≡ new_root s x e l r
chosen left x e l r o = rw o
chosen right x e l r o = rw o

-- What grow comes to: the new node alone, or beside the root.
module _ {wd : ℕ} {w w₁ : List ℕ} {h : Head} {st : State ℕ} (wide : Width wd) {k v next : ℕ} (f : Headed wd w h st) (n : 0 < h.free)
    (en : next ≡ get_or w ((3 + wd) * h.free + 2) 0) (t : Filled wd h.free (record { key = k; value = v; left = 0; right = 0 }) w w₁) where
  abbrev c : Free wd st w h
  c = free_there wide f n

  abbrev fresh_entry : Entry ℕ
  fresh_entry = record { slot = c.slot; key = k; value = v }

  grew : {w₂ : List ℕ} (u : Tree ℕ) → with_root fresh_entry st.tree ≡ u → Wrote wd st (taking u c.more st) h (grown h next) w w₂ → Grew wd k v st h w w₂ (grown h next)
  grew {w₂} u q p =
      record {
        slot = c.slot;
        more = c.more;
        was = c.is;
        bigger = refl;
        wrote = subst (λ (y : Tree ℕ). Wrote wd st (taking y c.more st) h (grown h next) w w₂) (sym q) p;
      }

  pub grew_first : h.root ≡ 0 → Grew wd k v st h w w₁ (grown h next)
  grew_first z = grew _ (ap (with_root fresh_entry) (no_link st.tree (sym f.root ∙ z))) (first_root k v next f c en t)

  -- The old root's key is as it was.
  key_stays : (s : ℕ) → h.root ≡ suc s → (slots wd w₁ s).key ≡ (slots wd w s).key
  key_stays s o = ap (λ (y : Slot ℕ). y.key) (t.elsewhere s (λ y. two y st.tree refl))
    where
      two : h.free ≡ suc s → (u : Tree ℕ) → st.tree ≡ u → ⊥
      two y none q = omega (arith, f.root, ap link_to q)
      two y (node e l r) q =
          let z : c.slot ≡ e.slot = omega (arith, f.root, ap link_to q, c.first) in
          omega (arith, c.apart, ap (λ (i : ℕ). times i st.tree) z, ap (λ (y : Tree ℕ). times e.slot y) q, hit_same e.slot)

  -- Beside the old root, with the key j, on the side on which the new key lies.
  module _ {w₂ : List ℕ} {j : ℕ} (z : h.root ≡ 0 → ⊥) (ej : KeyRead (slots wd w₁) h.root j) where
    pub grew_beside : (d : Side) → by_number k j ≡ toward d → w₂ ≡ crowned wd (off d) (off (other d)) w₁ h.root h.free → Grew wd k v st h w w₂ (grown h next)
    grew_beside d o ew = by d st.tree refl o ew
      where
        key_is : (e : Entry ℕ) (l r : Tree ℕ) → st.tree ≡ node e l r → j ≡ e.key
        key_is e l r q =
            let hs : Holds (slots wd w) (node e l r) = subst (Holds (slots wd w)) q f.nodes in
            ej e.slot (f.root ∙ ap link_to q) ∙ key_stays e.slot (f.root ∙ ap link_to q) ∙ ap (λ (y : Slot ℕ). y.key) hs.0

        rooted_by : (s : Side) (e : Entry ℕ) (l r : Tree ℕ) → st.tree ≡ node e l r → by_number k j ≡ toward s
            → with_root fresh_entry st.tree ≡ new_root s fresh_entry e l r
        rooted_by s e l r q o = ap (with_root fresh_entry) q ∙ chosen s fresh_entry e l r (ap (by_number k) (sym (key_is e l r q)) ∙ o)

        by : (s : Side) (u : Tree ℕ) → st.tree ≡ u → by_number k j ≡ toward s → w₂ ≡ crowned wd (off s) (off (other s)) w₁ h.root h.free → Grew wd k v st h w w₂ (grown h next)
        by s none q o y = absurd (z (f.root ∙ ap link_to q))
        by left (node e l r) q o y = grew _ (rooted_by left e l r q o) (crown wide left k v next e l r f c q en t y)
        by right (node e l r) q o y = grew _ (rooted_by right e l r q o) (crown wide right k v next e r l f c q en t y)

    pub grew_left : k < j → w₂ ≡ crowned wd (off left) (off right) w₁ h.root h.free → Grew wd k v st h w w₂ (grown h next)
    grew_left b = grew_beside left (order_from (toward left) k j b)

    pub grew_right : Rootless wd k w h → j ≤ k → w₂ ≡ crowned wd (off right) (off left) w₁ h.root h.free → Grew wd k v st h w w₂ (grown h next)
    grew_right r b =
        let o : h.root ≡ suc (h.root - 1) = omega (arith, z) in
        grew_beside right (right_of k j (λ q. r _ o (q ∙ ej _ o ∙ key_stays _ o)) b)
