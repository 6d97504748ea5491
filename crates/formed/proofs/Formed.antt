-- A well-formed arena is a header, a tree and a chain: the three that the check asks for, and nothing else.
use mathlib.Core.Bool.{Bool, true, false}
use mathlib.Core.List.{List}
use Prim.Native.Nat.{ℕ, ◌-◌, ◌≤◌}
use native.Mathlib.Omega.{arith}
use lib.ListN.{length, get_or}
use Rattle.rules.specs.Edition.{Edition, most_slots}
use Rattle.rules.specs.Tree.{Tree}
use Rattle.rules.specs.Arena.{place, WellFormed}
use Rattle.formed.specs.Verdict.{Tells, there, nowhere, TreeStands, ChainStands}

module _ {K : Type 0} (ed : Edition K) (w : List ℕ) where
  -- "It has at least 4 words, N is from 1 to 4,095, and it has at least 4+4N words"; and the size is at most N.
  pub record Header : Type 0 where
    pub some_slot : 1 ≤ get_or w 0 0
    pub in_range : get_or w 0 0 ≤ most_slots
    pub long : place ed (get_or w 0 0) ≤ length w
    pub live : get_or w 2 0 ≤ get_or w 0 0

  abbrev pub TreeIn : Tree K → Type 0
  TreeIn = TreeStands ed w (get_or w 0 0) (get_or w 1 0) (get_or w 2 0)

  abbrev pub ChainIn : List ℕ → Type 0
  ChainIn = ChainStands ed w (get_or w 0 0) (get_or w 3 0) (get_or w 0 0 - get_or w 2 0)

  -- The check's three ways to answer.
  pub by_header : (Header → ⊥) → Tells (WellFormed ed w) false
  by_header no_Header = nowhere (λ st a. no_Header (search arith))

  pub by_tree : Tells TreeIn false → Tells (WellFormed ed w) false
  by_tree (nowhere no_tree) = nowhere (λ st a. no_tree st.tree (search arith))

  pub by_chain : (r : Bool) → Header → Tells TreeIn true → Tells ChainIn r → Tells (WellFormed ed w) r
  by_chain r h (there t p) (there c q) = there (record { slots = get_or w 0 0; tree = t; free = c }) (search arith)
  by_chain r h p (nowhere no_chain) = nowhere (λ st a. no_chain st.free (search arith))

pub ruleset answers = (by_header, by_tree, by_chain)
