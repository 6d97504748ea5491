-- A tree and a chain whose numbers fit, with no words: what a command keeps where others share the chain, and where the slots of both need
-- not be all. The state's `slots` is how many entries there is room for: N, or a share of it.
use Rattle.std.specs.Prelude.{ℕ, ◌+◌, ◌≤◌, length}
use Rattle.rules.specs.Edition.{Edition, most_slots}
use Rattle.rules.specs.Command.{Command, get, next, prev, remove, write, insert, min, max, take_first, take_last, clear, len, unknown}
use Rattle.rules.specs.Live.{Ascending}
use Rattle.rules.specs.Tree.{size, times, entries}
use Rattle.rules.specs.Perform.{State}
use Rattle.rules.specs.Arena.{listed}

pub record Fit {K : Type 0} (ed : Edition K) (st : State K) : Type 0 where
  pub in_range : st.slots ≤ most_slots
  -- The entries are at most those that there is room for, and for each that is missing there is a free slot.
  pub low : size st.tree ≤ st.slots
  pub room : st.slots ≤ size st.tree + length st.free
  -- No slot stands twice.
  pub once : (s : ℕ) → times s st.tree + listed s st.free ≤ 1
  pub ascending : Ascending ed (entries st.tree)

-- Every command but clear moves slots, at most.
abbrev pub Moving : {K : Type 0} → Command K → Type 0
Moving (get k) = Unit {0}
Moving (next k) = Unit {0}
Moving (prev k) = Unit {0}
Moving (remove k) = Unit {0}
Moving (write k v) = Unit {0}
Moving (insert k v) = Unit {0}
Moving min = Unit {0}
Moving max = Unit {0}
Moving take_first = Unit {0}
Moving take_last = Unit {0}
Moving clear = ⊥
Moving len = Unit {0}
Moving unknown = Unit {0}
