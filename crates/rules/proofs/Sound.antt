-- What every arena's state has, said with no words: N is in range, each slot below N stands once, in the tree or on the chain, no other
-- slot stands anywhere, and the keys ascend.
use mathlib.Core.Path.{◌≡◌}
use Prim.Native.Nat.{ℕ, ◌+◌, ◌≤◌, ◌<◌}
use lib.ListN.{length}
use Rattle.rules.specs.Edition.{Edition, most_slots}
use Rattle.rules.specs.Live.{Ascending}
use Rattle.rules.specs.Tree.{size, times, entries}
use Rattle.rules.specs.Perform.{State}
use Rattle.rules.specs.Arena.{listed}

pub record Sound {K : Type 0} (ed : Edition K) (st : State K) : Type 0 where
  pub some_slot : 1 ≤ st.slots
  pub in_range : st.slots ≤ most_slots
  pub cover : (s : ℕ) → s < st.slots → times s st.tree + listed s st.free ≡ 1
  pub outside : (s : ℕ) → st.slots ≤ s → times s st.tree + listed s st.free ≡ 0
  pub number : size st.tree + length st.free ≡ st.slots
  pub ascending : Ascending ed (entries st.tree)
