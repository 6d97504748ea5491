-- What a command promises of one tree and the free chain, wherever their head is kept and whatever else stands in the words.
use Rattle.std.specs.Prelude.{List, ◌≡◌, ℕ, suc, ◌+◌, ◌≤◌, length}
use Rattle.rules.specs.Edition.{edition, Width}
use Rattle.rules.specs.Tree.{size, times, link_to}
use Rattle.rules.specs.Perform.{State, Outcome}
use Rattle.rules.specs.Arena.{first_link, listed, Holds, Chained, place, slot_at}
use Rattle.rules.specs.Fit.{Fit}
use Rattle.node.specs.Stands.{Changed}
use Rattle.heads.specs.declared.head.Head.{Head}
use Rattle.heads.specs.declared.head.Done.{Done}
use Rattle.heads.specs.Worded.{Says}

-- The head h leads to the state's tree and to its chain, which stand in slots within the words, no slot twice.
pub record Headed (wd : ℕ) (w : List ℕ) (h : Head) (st : State ℕ) : Type 0 where
  pub root : h.root ≡ link_to st.tree
  pub live : h.size ≡ size st.tree
  pub first : h.free ≡ first_link st.free
  pub nodes : Holds (slot_at (edition wd) w) st.tree
  pub chain : Chained (edition wd) (slot_at (edition wd) w) st.free
  pub inside : (s : ℕ) → 1 ≤ times s st.tree + listed s st.free → place (edition wd) (suc s) ≤ length w
  pub fit : Fit (edition wd) st

-- Some state stands under the head. (A clause and no type, as `Inside` is, and for the same reason.)
abbrev pub Somehow : ℕ → List ℕ → Head → Type 0
Somehow wd w h = (st : State ℕ) × Headed wd w h st × Width wd

-- The same with room for `most` entries.
abbrev pub SomehowWith : ℕ → List ℕ → Head → ℕ → Type 0
SomehowWith wd w h most = (st : State ℕ) × Headed wd w h st × (st.slots ≡ most) × Width wd

-- The slots of a state: how often each stands in its tree and on its chain.
abbrev pub slots_of : State ℕ → ℕ → ℕ
slots_of st s = times s st.tree + listed s st.free

-- The answer and the head are those of the outcome o, its state stands in the words w', and only slots of the state st may differ from w.
pub record Obeyed {K : Type 0} (number : K → ℕ) (wd : ℕ) (o : Outcome ℕ) (st : State ℕ) (w w' : List ℕ) (d : Done K) : Type 0 where
  pub says : Says number d.answer o.answer
  pub headed : Headed wd w' d.head o.state
  pub only : Changed (edition wd) (slots_of st) w w'
