-- What a test answers: whether anything has a property. And the three properties that the check of an arena asks for, in the words of
-- docs/RULES.md.
use Rattle.std.specs.Prelude.{Bool, true, false, List, ◌≡◌, ℕ, ◌≤◌, length}
use Rattle.rules.specs.Edition.{Edition, edition}
use Rattle.rules.specs.Live.{Ascending}
use Rattle.rules.specs.Tree.{Tree, size, times, link_to, entries}
use Rattle.rules.specs.Arena.{first_link, listed, Holds, Chained, slot_at, WellFormed}

-- True, and here is one that has P; or false, and none has it.
pub data Tells {A : Type 0} (P : A → Type 0) : Bool → Type 0 where
  there : (a : A) → P a → Tells P true
  nowhere : ((a : A) → ¬ P a) → Tells P false

module _ {K : Type 0} (ed : Edition K) (w : List ℕ) (n : ℕ) where
  -- "All links that are met from the root on are at most N." "No slot is met twice from the root on." "The nodes that are met are as many
  -- as the size says." "The nodes' keys strictly ascend from left to right."
  pub record TreeStands (root count : ℕ) (t : Tree K) : Type 0 where
    pub at : root ≡ link_to t
    pub nodes : Holds (slot_at ed w) t
    pub within : (s : ℕ) → n ≤ s → times s t ≡ 0
    pub once : (s : ℕ) → times s t ≤ 1
    pub number : size t ≡ count
    pub ascending : Ascending ed (entries t)

  -- "The chain's links are at most N, each slot that it meets is free, and it ends with a link of 0 after exactly N minus size slots."
  pub record ChainStands (first count : ℕ) (c : List ℕ) : Type 0 where
    pub at : first ≡ first_link c
    pub chain : Chained ed (slot_at ed w) c
    pub within : (s : ℕ) → n ≤ s → listed s c ≡ 0
    pub number : length c ≡ count

-- The arena is "well formed", and there is a state that it holds; or it is not, and holds none.
abbrev pub Verdict : ℕ → List ℕ → Bool → Type 0
Verdict wd w r = Tells (WellFormed (edition wd) w) r
