-- What the stores of a command leave of a tree, a chain and their head, and of an arena's words.
use Rattle.std.specs.Prelude.{List, ◌≡◌, ℕ, ◌+◌, ◌≤◌, length, get_or}
use Rattle.rules.specs.Edition.{edition}
use Rattle.rules.specs.Tree.{size, link_to}
use Rattle.rules.specs.Perform.{State}
use Rattle.rules.specs.Arena.{first_link, Holds, Chained, slot_at}
use Rattle.node.specs.Stands.{Changed}
use Rattle.heads.specs.declared.head.Head.{Head}
use Rattle.heads.specs.Headed.{slots_of}

-- The words w' are written for the state: the header, the tree's and the chain's slots; what lies beyond is as in w.
pub record Written (wd : ℕ) (w w' : List ℕ) (st : State ℕ) : Type 0 where
  pub len : length w' ≡ length w
  pub slot_count : get_or w' 0 0 ≡ st.slots
  pub root : get_or w' 1 0 ≡ link_to st.tree
  pub live : get_or w' 2 0 ≡ size st.tree
  pub first : get_or w' 3 0 ≡ first_link st.free
  pub nodes : Holds (slot_at (edition wd) w') st.tree
  pub chain : Chained (edition wd) (slot_at (edition wd) w') st.free
  pub beyond : (s : ℕ) → st.slots ≤ s → slot_at (edition wd) w' s ≡ slot_at (edition wd) w s

-- Where the state st stood under the head h, the state st' is written under the head h'; only slots of st may have changed.
pub record Wrote (wd : ℕ) (st st' : State ℕ) (h h' : Head) (w w' : List ℕ) : Type 0 where
  pub root : h'.root ≡ link_to st'.tree
  pub number : h'.size + length st'.free ≡ h.size + length st.free
  pub first : h'.free ≡ first_link st'.free
  pub nodes : Holds (slot_at (edition wd) w') st'.tree
  pub chain : Chained (edition wd) (slot_at (edition wd) w') st'.free
  pub only : Changed (edition wd) (slots_of st) w w'
