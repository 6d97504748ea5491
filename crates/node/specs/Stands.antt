-- A tree that stands in an arena's words, and the words that a call may change.
use Rattle.std.specs.Prelude.{List, ◌≡◌, ℕ, suc, ◌+◌, ◌*◌, ◌≤◌, ◌<◌, length, get_or}
use Rattle.rules.specs.Order.{Side, left, right}
use Rattle.rules.specs.Edition.{Edition, edition, Width}
use Rattle.rules.specs.Tree.{Tree, times, link_to}
use Rattle.rules.specs.Arena.{Slot, Holds, place, slot_at}
use Rattle.node.specs.declared.side.Side.{Side as Given}
use Rattle.node.specs.declared.side.Side.TheVariants as is

-- The word of a slot that holds the link on a side.
abbrev pub off : Side → ℕ
off left = 2
off right = 3

-- A side of the code, as the rules name it.
abbrev pub side_of : Given → Side
side_of is.Left = left
side_of is.Right = right

-- The length and the header are as they were.
pub record Kept (w w' : List ℕ) : Type 0 where
  pub len : length w' ≡ length w
  pub header : (i : ℕ) → i < 4 → get_or w' i 0 ≡ get_or w i 0

module _ {K : Type 0} (ed : Edition K) where
  -- The tree t stands at the link x: each node's slot holds it, no slot holds two, and each lies within the words.
  pub record Stands (w : List ℕ) (x : ℕ) (t : Tree K) : Type 0 where
    pub at : x ≡ link_to t
    pub holds : Holds (slot_at ed w) t
    pub once : (s : ℕ) → times s t ≤ 1
    pub inside : (s : ℕ) → 1 ≤ times s t → place ed (suc s) ≤ length w

  -- Only slots s with f s above 0 may have changed: the length, the header and every other slot are as they were.
  pub record Changed (f : ℕ → ℕ) (w w' : List ℕ) : Type 0 where
    pub kept : Kept w w'
    pub same : (s : ℕ) → f s ≡ 0 → slot_at ed w' s ≡ slot_at ed w s

-- The link x leads to a slot within the words, in an arena of one of the two editions. (A clause and no type: a struct for it would keep
-- the `&mut` to the words, and each function would have to promise that it keeps that same one: a clause in place of a clause.)
pub record Inside (wd : ℕ) (w : List ℕ) (x : ℕ) : Type 0 where
  pub width : Width wd
  pub real : 0 < x
  pub within : (3 + wd) * x + 3 < length w

-- The slot that the link x leads to holds c. Every other slot, the header and the length are as they were.
pub record Filled (wd x : ℕ) (c : Slot ℕ) (w w' : List ℕ) : Type 0 where
  pub kept : Kept w w'
  pub here : (s : ℕ) → x ≡ suc s → slot_at (edition wd) w' s ≡ c
  pub elsewhere : (s : ℕ) → (x ≡ suc s → ⊥) → slot_at (edition wd) w' s ≡ slot_at (edition wd) w s

-- The slot that the link x leads to holds the key k, and nothing else changes.
pub record Rekeyed (wd x k : ℕ) (w w' : List ℕ) : Type 0 where
  pub kept : Kept w w'
  pub here : (s : ℕ) → x ≡ suc s
      → slot_at (edition wd) w' s
      ≡ (let c = slot_at (edition wd) w s in record { key = k; value = c.value; left = c.left; right = c.right })
  pub elsewhere : (s : ℕ) → (x ≡ suc s → ⊥) → slot_at (edition wd) w' s ≡ slot_at (edition wd) w s
