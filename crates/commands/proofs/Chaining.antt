-- A new arena's words: a turn of the loop chains one slot more, and at the end every word is the new arena's.
use mathlib.Core.List.{List}
use mathlib.Core.Path.{◌≡◌, sym, ◌∙◌}
use Prim.Native.Nat.{ℕ, suc, ◌+◌, ◌*◌, ◌≤◌, ◌<◌}
use native.Mathlib.Omega.{arith}
use lib.ListN.{length, set, length-set}
use lib.Seq.{get_or-set_same}
use Rattle.rules.specs.Edition.{edition, most_slots}
use Rattle.rules.specs.Perform.{new}
use Rattle.rules.specs.Arena.{free_slot}
use Rattle.rules.proofs.Chain.{counting_first, counting_chained}
use Rattle.rules.proofs.Kept.{new_sound}
use Rattle.node.specs.Stands.{Kept, Filled}
use Rattle.node.proofs.Words.{slots, kept_trans}
use Rattle.heads.specs.Did.{Fair}
use Rattle.heads.specs.declared.head.Head.{Head}
use Rattle.heads.proofs.Settle.{Settled, settle, header_slots}
use Rattle.commands.proofs.Header.{with_head, head_words, head_length, head_slots}

-- The words w with the header of a new arena of n slots.
abbrev pub headed : ℕ → List ℕ → List ℕ
headed n w = with_head (set w 0 n) (record { root = 0; size = 0; free = 1 })

-- Before the link x is chained: each slot before its slot is linked to the next, and all else is as it was in w.
pub record Chaining (wd : ℕ) (w w' : List ℕ) (x : ℕ) : Type 0 where
  pub kept : Kept w w'
  pub done : (s : ℕ) → suc s < x → slots wd w' s ≡ free_slot (edition wd) (suc (suc s))
  pub ahead : (s : ℕ) → x ≤ suc s → slots wd w' s ≡ slots wd w s

-- Once the last slot is free with no link after it, the words are the new arena's.
pub chain_end : {wd n x : ℕ} (w : List ℕ) {w₁ w₂ : List ℕ} → Fair wd w w₂ → 1 ≤ n → n ≤ most_slots → 4 + (3 + wd) * n ≤ length w
    → Chaining wd (headed n w) w₁ x → x ≡ n → Filled wd n (free_slot (edition wd) 0) w₁ w₂ → Settled wd w w₂ (new n)
unfolding new
chain_end {wd} {n} w {w₁} {w₂} y some few long c e f =
    let k : Kept (headed n w) w₂ = kept_trans c.kept f.kept in
    let h : Head = record { root = 0; size = 0; free = 1 } in
    let words = head_words (set w 0 n) h (omega (arith, length-set w 0 n)) in
    settle w w₂ y (new n) long (new_sound (edition wd) n some few)
    (record {
      len = k.len ∙ head_length (set w 0 n) h ∙ length-set w 0 n;
      slot_count = k.header 0 (omega arith) ∙ words.0 ∙ get_or-set_same w 0 n 0 (omega arith);
      root = k.header 1 (omega arith) ∙ words.1;
      live = k.header 2 (omega arith) ∙ words.2;
      first = k.header 3 (omega arith) ∙ words.3 ∙ sym (counting_first n 0 (omega arith));
      nodes = tt;
      chain =
          counting_chained (edition wd) (slots wd w₂) n 0
          (λ s p. f.elsewhere s (omega arith) ∙ c.done s (omega arith))
          (λ s e. f.here s (omega arith));
      beyond = λ s p.
          f.elsewhere s (omega arith)
          ∙ c.ahead s (omega arith)
          ∙ head_slots wd (set w 0 n) h s
          ∙ header_slots wd w 0 n (omega arith) s;
    })
