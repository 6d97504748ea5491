-- An arena's head, its words 1 to 3: what storing it changes.
use mathlib.Core.List.{List, [], ◌∷◌}
use mathlib.Core.Path.{◌≡◌, refl, ◌∙◌}
use Prim.Native.Nat.{ℕ, ◌≤◌}
use native.Mathlib.Omega.{arith}
use lib.ListN.{length, get_or, set, length-set}
use Rattle.node.proofs.Words.{slots}
use Rattle.heads.specs.declared.head.Head.{Head}
use Rattle.heads.proofs.Settle.{header_slots}

-- The head of an arena, and an arena with another head.
abbrev pub head_of : List ℕ → Head
head_of w = record { root = get_or w 1 0; size = get_or w 2 0; free = get_or w 3 0 }

abbrev pub with_head : List ℕ → Head → List ℕ
with_head w h = set (set (set w 1 h.root) 2 h.size) 3 h.free

pub head_words : (w : List ℕ) (h : Head) → 4 ≤ length w
    → (get_or (with_head w h) 0 0 ≡ get_or w 0 0)
    × (get_or (with_head w h) 1 0 ≡ h.root)
    × (get_or (with_head w h) 2 0 ≡ h.size)
    × (get_or (with_head w h) 3 0 ≡ h.free)
head_words [] h p = absurd (omega arith)
head_words (a ∷ []) h p = absurd (omega arith)
head_words (a ∷ b ∷ []) h p = absurd (omega arith)
head_words (a ∷ b ∷ c ∷ []) h p = absurd (omega arith)
head_words (a ∷ b ∷ c ∷ d ∷ w) h p = (refl, refl, refl, refl)

pub head_length : (w : List ℕ) (h : Head) → length (with_head w h) ≡ length w
head_length w h = simp length-set

pub head_slots : (wd : ℕ) (w : List ℕ) (h : Head) (s : ℕ) → slots wd (with_head w h) s ≡ slots wd w s
head_slots wd w h s =
    header_slots wd (set (set w 1 h.root) 2 h.size) 3 h.free (omega arith) s
    ∙ header_slots wd (set w 1 h.root) 2 h.size (omega arith) s
    ∙ header_slots wd w 1 h.root (omega arith) s
