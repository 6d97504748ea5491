-- A state under its head: its tree stands, what a command must write for its outcome to stand there again, and what stays.
use mathlib.Core.List.{List}
use mathlib.Core.Path.{◌≡◌, refl, sym, subst}
use Prim.Native.Nat.{ℕ, ◌≤◌}
use native.Mathlib.Omega.{arith}
use Rattle.rules.specs.Edition.{edition, Width}
use Rattle.rules.specs.Command as rules
use Rattle.rules.specs.Command.{Command}
use Rattle.rules.specs.Tree.{Tree, size, times}
use Rattle.rules.specs.Perform.{State, Outcome, with_tree, gives, perform}
use Rattle.rules.specs.Arena.{Slot, Chained}
use Rattle.rules.specs.Fit.{Fit, Moving}
use Rattle.rules.proofs.Order.{edition_lawful}
use Rattle.rules.proofs.Held.{chained_frame}
use Rattle.rules.proofs.Kept.{Moved, perform_moved, perform_fit}
use Rattle.node.specs.Stands.{Stands}
use Rattle.node.proofs.Words.{slots}
use Rattle.splay.specs.Moves.{Became}
use Rattle.splay.proofs.Standing.{unchanged}
use Rattle.heads.specs.declared.answer.Answer.{Answer}
use Rattle.heads.specs.declared.head.Head.{Head}
use Rattle.heads.specs.declared.head.Done.{Done}
use Rattle.heads.specs.Worded.{Says}
use Rattle.heads.specs.Headed.{Headed, Obeyed}
use Rattle.heads.specs.Slots.{Wrote}

-- An outcome that is another.
pub obeyed_as : {K : Type 0} {number : K → ℕ} {wd : ℕ} {o p : Outcome ℕ} {st : State ℕ} {w w' : List ℕ} {d : Done K} → o ≡ p
    → Obeyed number wd p st w w' d → Obeyed number wd o st w w' d
obeyed_as {K} {number} {wd} {st = st} {w = w} {w' = w'} {d = d} e b = subst (λ (q : Outcome ℕ). Obeyed number wd q st w w' d) (sym e) b

-- The head with another root.
abbrev pub rooted_at : Head → ℕ → Head
rooted_at h x = record { root = x; size = h.size; free = h.free }

module _ {wd : ℕ} {w : List ℕ} {h : Head} {st : State ℕ} (f : Headed wd w h st) where
  pub tree_stands : Stands (edition wd) w h.root st.tree
  tree_stands =
      record {
        at = f.root;
        holds = f.nodes;
        once = λ s. omega (arith, f.fit.once s);
        inside = λ s p. f.inside s (omega arith);
      }

  -- An answer that changes nothing.
  pub stays : {K : Type 0} {number : K → ℕ} {x : rules.Answer ℕ} {a : Answer K} → Says number a x → Obeyed number wd (gives x st) st w w (record { answer = a; head = h })
  stays p = record { says = p; headed = f; only = unchanged }

  -- The chain where only slots of the tree have changed.
  pub chain_stays : (m : ℕ → Slot ℕ) → ((s : ℕ) → times s st.tree ≡ 0 → m s ≡ slots wd w s) → Chained (edition wd) m st.free
  chain_stays m g = chained_frame (edition wd) m (slots wd w) st.free (λ s p. g s (omega (arith, f.fit.once s))) f.chain

  -- What a command writes makes its outcome stand, if there is room for its entries: that no slot is lost and that keys ascend are the
  -- rules'.
  pub obeys : {K : Type 0} {number : K → ℕ} → Width wd → (c : Command ℕ) → Moving c → {o : Outcome ℕ} → perform (edition wd) c st ≡ o → {a : Answer K} {h' : Head} {w' : List ℕ}
      → Says number a o.answer → h'.size ≤ st.slots → Wrote wd st o.state h h' w w'
      → Obeyed number wd o st w w' (record { answer = a; head = h' })
  obeys {K} {number} v c u {o} q {a} {h'} {w'} says low p =
      let m : Moved st o.state
      = subst (λ (y : Outcome ℕ). Moved st y.state) q (perform_moved (edition wd) (edition_lawful v) c u st f.fit) in
      let live : h'.size ≡ size o.state.tree = omega (arith, p.number, m.number, f.live) in
      record {
        says = says;
        headed =
            record {
              root = p.root;
              live = live;
              first = p.first;
              nodes = p.nodes;
              chain = p.chain;
              inside = λ s b. (let i = f.inside s (omega (arith, m.each s)) in omega (arith, p.only.kept.len));
              fit =
                  subst (λ (y : Outcome ℕ). size y.state.tree ≤ st.slots → Fit (edition wd) y.state) q
                  (perform_fit (edition wd) (edition_lawful v) c u st f.fit) (omega arith);
            };
        only = p.only;
      }

  -- The splayed tree.
  pub root_wrote : {x : ℕ} {w₁ : List ℕ} (t : Tree ℕ) → Became wd w w₁ x st.tree t → Wrote wd st (with_tree t st) h (rooted_at h x) w w₁
  root_wrote {x} {w₁} t b =
      record {
        root = b.stands.at;
        number = refl;
        first = f.first;
        nodes = b.stands.holds;
        chain = chain_stays (slots wd w₁) (λ s z. b.only.same s z);
        only = record { kept = b.only.kept; same = λ s z. b.only.same s (omega arith) };
      }
