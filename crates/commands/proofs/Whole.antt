-- An arena as a state under a head, its words 1 to 3: what a command leaves there, with the head's words stored, is the outcome's arena.
-- And a tree whose slots are not among those of a command stands as it did.
use mathlib.Core.List.{List}
use mathlib.Core.Path.{◌≡◌, refl, sym, ◌∙◌}
use Prim.Native.Nat.{ℕ, zero, suc, ◌+◌, ◌*◌, ◌≤◌, ◌<◌}
use native.Mathlib.Nat.{mul-le-mul_left}
use native.Mathlib.Omega.{arith}
use lib.ListN.{length}
use Rattle.rules.specs.Edition.{edition, Width}
use Rattle.rules.specs.Command.{Command}
use Rattle.rules.specs.Tree.{Tree, size, times}
use Rattle.rules.specs.Perform.{State, perform}
use Rattle.rules.specs.Arena.{listed, WellFormed}
use Rattle.rules.specs.Fit.{Moving}
use Rattle.rules.proofs.Order.{edition_lawful}
use Rattle.rules.proofs.Pigeons.{below}
use Rattle.rules.proofs.Held.{chained_frame, holds_frame}
use Rattle.rules.proofs.Kept.{Moved, sound_fit, perform_moved, perform_slots, perform_sound}
use Rattle.rules.proofs.WellFormed.{sound}
use Rattle.node.specs.Stands.{Stands, Changed}
use Rattle.node.proofs.Words.{slots}
use Rattle.heads.specs.declared.head.Head.{Head}
use Rattle.heads.specs.declared.head.Done.{Done}
use Rattle.heads.specs.Did.{Did, Fair}
use Rattle.heads.specs.Headed.{Headed, Obeyed, slots_of}
use Rattle.heads.proofs.Settle.{settle}
use Rattle.heads.proofs.Heads.{tree_stands}
use Rattle.commands.proofs.Header.{head_of, with_head, head_words, head_length, head_slots}

module _ {wd : ℕ} {w : List ℕ} {st : State ℕ} (f : WellFormed (edition wd) w st) where
  -- The header's words are there.
  pub header_in : 4 < length w
  header_in = omega (arith, f.long, mul-le-mul_left (3 + wd) f.some_slot)

  pub arena_headed : Headed wd w (head_of w) st
  arena_headed =
      record {
        root = f.root;
        live = f.size_word;
        first = f.first_free;
        nodes = f.nodes;
        chain = f.chain;
        inside = λ s p.
            (let q = below st.slots s (slots_of st s) (λ b. omega (arith, f.within s b, f.chain_within s b)) p in
            omega (arith, f.long, mul-le-mul_left (3 + wd) q));
        fit = sound_fit (edition wd) (sound (edition wd) f);
      }

  pub arena_did : {K : Type 0} {number : K → ℕ} (c : Command ℕ) {w₁ : List ℕ} {d : Done K} → Fair wd w (with_head w₁ d.head)
      → Obeyed number wd (perform (edition wd) c st) st w w₁ d → Did number wd (perform (edition wd) c st) w (with_head w₁ d.head) d.answer
  arena_did c {w₁} {d} y p =
      let o = perform (edition wd) c st in
      let w₂ : List ℕ = with_head w₁ d.head in
      let words = head_words w₁ d.head (omega (arith, header_in, p.only.kept.len)) in
      let same : (s : ℕ) → slots wd w₂ s ≡ slots wd w₁ s = head_slots wd w₁ d.head in
      let n : o.state.slots ≡ st.slots = perform_slots (edition wd) c st in
      let s =
      settle w w₂ y o.state (rw n f.long) (perform_sound (edition wd) (edition_lawful y.width) c st (sound (edition wd) f))
      (record {
        len = head_length w₁ d.head ∙ p.only.kept.len;
        slot_count = words.0 ∙ p.only.kept.header 0 (omega arith) ∙ f.slots ∙ sym n;
        root = words.1 ∙ p.headed.root;
        live = words.2 ∙ p.headed.live;
        first = words.3 ∙ p.headed.first;
        nodes = holds_frame (slots wd w₂) (slots wd w₁) o.state.tree (λ s b. same s) p.headed.nodes;
        chain = chained_frame (edition wd) (slots wd w₂) (slots wd w₁) o.state.free (λ s b. same s) p.headed.chain;
        beyond = λ s b. (let b' : st.slots ≤ s = omega arith in same s ∙ p.only.same s (omega (arith, f.within s b', f.chain_within s b')));
      }) in
      record { says = p.says; words = s.words; formed = s.formed }

-- A tree that has no slot of the state st stands as it did.
pub other_stands : {wd : ℕ} {w w' : List ℕ} {x : ℕ} (st : State ℕ) (t : Tree ℕ) → Changed (edition wd) (slots_of st) w w' → ((s : ℕ) → 1 ≤ times s t → slots_of st s ≡ 0)
    → Stands (edition wd) w x t → Stands (edition wd) w' x t
other_stands {wd} {w} {w'} st t c off h =
    record {
      at = h.at;
      holds = holds_frame (slots wd w') (slots wd w) t (λ s p. c.same s (off s p)) h.holds;
      once = h.once;
      inside = λ s p. (let q = h.inside s p in omega (arith, c.kept.len));
    }

-- Another state on the same chain, whose tree has no slot of the state st: a command on st leaves it as it was, under its head with the
-- chain's new first link, if there is still room.
module _ {K : Type 0} {number : K → ℕ} {wd : ℕ} {w w' : List ℕ} {h g : Head} {st u : State ℕ} {d : Done K} (c : Command ℕ) (v : Width wd) (m : Moving c)
    (f : Headed wd w h st) (b : Headed wd w g u) (apart : (s : ℕ) → times s u.tree + slots_of st s ≤ 1) (o : Obeyed number wd (perform (edition wd) c st) st w w' d) where
  abbrev pub to : State ℕ
  to = (perform (edition wd) c st).state

  pub moved : Moved st to
  moved = perform_moved (edition wd) (edition_lawful v) c m st f.fit

  pub other_headed : u.slots ≤ size u.tree + length to.free
      → Headed wd w' (record { root = g.root; size = g.size; free = d.head.free }) (record { slots = u.slots; tree = u.tree; free = to.free })
  other_headed room =
      let t = other_stands st u.tree o.only (λ s q. omega (arith, apart s)) (tree_stands b) in
      record {
        root = b.root;
        live = b.live;
        first = o.headed.first;
        nodes = t.holds;
        chain = o.headed.chain;
        inside = λ s q. by s (times s u.tree) refl (t.inside s) (o.headed.inside s) q;
        fit =
            record {
              in_range = b.fit.in_range;
              low = b.fit.low;
              room = room;
              once = λ s. omega (arith, apart s, moved.each s);
              ascending = b.fit.ascending;
            };
      }
    where
      by : (s n : ℕ) → times s u.tree ≡ n → (1 ≤ times s u.tree → 4 + (3 + wd) * suc s ≤ length w') → (1 ≤ slots_of to s → 4 + (3 + wd) * suc s ≤ length w')
          → 1 ≤ times s u.tree + listed s to.free → 4 + (3 + wd) * suc s ≤ length w'
      by s zero e x y q = y (omega arith)
      by s (suc n) e x y q = x (omega arith)
