-- What an insert of a new key leaves: a node in the first free slot is the root, beside the old one.
use Rattle.std.specs.Prelude.{List, ◌∷◌, ◌≡◌, ℕ, suc, ◌+◌, ◌*◌, get_or, set}
use Rattle.rules.specs.Order.{left, right, by_number, by_order}
use Rattle.rules.specs.Edition.{edition}
use Rattle.rules.specs.Tree.{Entry, Tree, none, node}
use Rattle.rules.specs.Perform.{State, taking, new_root}
use Rattle.rules.specs.Arena.{slot_at}
use Rattle.heads.specs.declared.head.Head.{Head}
use Rattle.heads.specs.Slots.{Wrote}

-- The words with a new root: x takes the root's child in the word p, and the root into the word q.
abbrev pub crowned : ℕ → ℕ → ℕ → List ℕ → ℕ → ℕ → List ℕ
crowned wd p q w root x = set (set (set w ((3 + wd) * x + p) (get_or w ((3 + wd) * root + p) 0)) ((3 + wd) * x + q) root) ((3 + wd) * root + p) 0

-- The tree with a new node for its root, on that side of the old root on which its key lies.
abbrev pub with_root : Entry ℕ → Tree ℕ → Tree ℕ
with_root x none = node x none none
with_root x (node e l r) = by_order (by_number x.key e.key) (node e l r) (new_root left x e l r) (new_root right x e l r)

-- The key is not the root's.
abbrev pub Rootless : ℕ → ℕ → List ℕ → Head → Type 0
Rootless wd k w h = (s : ℕ) → h.root ≡ suc s → k ≡ (slot_at (edition wd) w s).key → ⊥

-- A node for the key, in the first free slot, is the root.
pub record Grew (wd k v : ℕ) (st : State ℕ) (h : Head) (w w' : List ℕ) (h' : Head) : Type 0 where
  pub slot : ℕ
  pub more : List ℕ
  pub was : st.free ≡ slot ∷ more
  pub bigger : h'.size ≡ h.size + 1
  pub wrote : Wrote wd st (taking (with_root (record { slot = slot; key = k; value = v }) st.tree) more st) h h' w w'
