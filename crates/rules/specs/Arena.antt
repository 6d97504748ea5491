-- The arena's words: what they are for a state, and when words are a well-formed arena.
use Rattle.std.specs.Prelude.{List, [], ◌∷◌, ◌++◌, ◌≡◌, ℕ, suc, ◌+◌, ◌*◌, ◌≤◌, eqb, length, get_or, drop}
use Rattle.std.proofs.Math.Option.{Option, none as nil, some}
use Rattle.rules.specs.Order.{choose}
use Rattle.rules.specs.Edition.{Edition, M, most_slots}
use Rattle.rules.specs.Live.{or_else, Ascending}
use Rattle.rules.specs.Tree.{Entry, Tree, none, node, size, times, hit, link_to, entries}
use Rattle.rules.specs.Perform.{State, counting}

-- What stands in a slot: "its key, its value, its left link, its right link".
pub record Slot (K : Type 0) : Type 0 where
  pub key : K
  pub value : ℕ
  pub left : ℕ
  pub right : ℕ

-- The link to the first slot of a chain, and the link that a chain has in its slot s.
abbrev pub first_link : List ℕ → ℕ
first_link [] = 0
first_link (s ∷ more) = suc s

unfoldable pub link_after : ℕ → List ℕ → ℕ
link_after s [] = 0
link_after s (x ∷ more) = choose (eqb s x) (first_link more) (link_after s more)

-- How often a slot stands in a list.
abbrev pub listed : ℕ → List ℕ → ℕ
listed s [] = 0
listed s (x ∷ more) = hit s x + listed s more

module _ {K : Type 0} where
  -- What a node's slot holds.
  abbrev pub content : Entry K → Tree K → Tree K → Slot K
  content e l r = record { key = e.key; value = e.value; left = link_to l; right = link_to r }

  -- What the tree has in the slot s.
  unfoldable pub held : ℕ → Tree K → Option (Slot K)
  held s none = nil
  held s (node e l r) = choose (eqb s e.slot) (some (content e l r)) (or_else (held s l) (held s r))

  -- The slots hold the tree: each node's slot has its key and value, and the links to its children.
  abbrev pub Holds : (ℕ → Slot K) → Tree K → Type 0
  Holds at none = Unit {0}
  Holds at (node e l r) = (at e.slot ≡ content e l r) × Holds at l × Holds at r

module _ {K : Type 0} (ed : Edition K) where
  -- "A free slot has key 0, value 0, the next free link on its left, and M on its right."
  abbrev pub free_slot : ℕ → Slot K
  free_slot next = record { key = ed.zero_key; value = 0; left = next; right = M }

  -- The slots hold the chain: each of its slots is free, with the link to the next, and the last "ends with a link of 0".
  abbrev pub Chained : (ℕ → Slot K) → List ℕ → Type 0
  Chained at [] = Unit {0}
  Chained at (s ∷ more) = (at s ≡ free_slot (first_link more)) × Chained at more

  abbrev pub or_free : Option (Slot K) → ℕ → Slot K
  or_free nil next = free_slot next
  or_free (some c) next = c

  -- What stands in the slot s: the tree's node there, otherwise a free slot.
  unfoldable pub slot_of : State K → ℕ → Slot K
  slot_of st s = or_free (held s st.tree) (link_after s st.free)

  abbrev pub slot_words : Slot K → List ℕ
  slot_words c = ed.spell c.key ++ (c.value ∷ c.left ∷ c.right ∷ [])

  unfoldable pub all_words : State K → List ℕ → List ℕ
  all_words st [] = []
  all_words st (s ∷ more) = slot_words (slot_of st s) ++ all_words st more

  -- Word 0: "N, the number of slots". Word 1: "the root link". Word 2: "the size". Word 3: "the first free link". Then the slots.
  unfoldable pub words : State K → List ℕ
  words st =
      st.slots
      ∷ link_to st.tree
      ∷ size st.tree
      ∷ first_link st.free
      ∷ all_words st (counting st.slots 0)

  -- "4+4s to 7+4s": slot s. There are 4 words of header, and a slot takes three words more than a key.
  abbrev pub slot_size : ℕ
  slot_size = 3 + ed.width

  abbrev pub place_from : ℕ → ℕ → ℕ
  place_from header s = header + slot_size * s

  abbrev pub place : ℕ → ℕ
  place s = place_from 4 s

  -- What stands in the slot whose words begin at a place, and in the slot s.
  abbrev pub slot_from : List ℕ → ℕ → Slot K
  slot_from w i =
      record {
        key = ed.key_at w i;
        value = get_or w (i + ed.width) 0;
        left = get_or w (i + (1 + ed.width)) 0;
        right = get_or w (i + (2 + ed.width)) 0;
      }

  abbrev pub slot_at : List ℕ → ℕ → Slot K
  slot_at w s = slot_from w (place s)

  -- "4+4N and beyond": "no call writes these words".
  abbrev pub over : State K → List ℕ → List ℕ
  over st w = words st ++ drop (place st.slots) w

  -- "An arena is well formed": the words w are, and st is what they hold.
  pub record WellFormed (w : List ℕ) (st : State K) : Type 0 where
    -- "It has at least 4 words, N is from 1 to 4,095, and it has at least 4+4N words." (4+4N is never below 4.)
    pub slots : get_or w 0 0 ≡ st.slots
    pub long : place st.slots ≤ length w
    pub some_slot : 1 ≤ st.slots
    pub in_range : st.slots ≤ most_slots
    -- "The root link, the size and the first free link are at most N." They are the tree's and the chain's here, so that they are at most N
    -- follows: `header_within` in proofs/WellFormed.antt. "The nodes that are met are as many as the size says": word 2 is the tree's size.
    pub root : get_or w 1 0 ≡ link_to st.tree
    pub size_word : get_or w 2 0 ≡ size st.tree
    pub first_free : get_or w 3 0 ≡ first_link st.free
    -- "All links that are met from the root on are at most N": the nodes' slots hold the tree, and it has none from N on.
    pub nodes : Holds (slot_at w) st.tree
    pub within : (s : ℕ) → st.slots ≤ s → times s st.tree ≡ 0
    -- "No slot is met twice from the root on."
    pub once : (s : ℕ) → times s st.tree ≤ 1
    -- "The nodes' keys strictly ascend from left to right."
    pub ascending : Ascending ed (entries st.tree)
    -- "The chain's links are at most N, each slot that it meets is free": the slots hold the chain, and it has none from N on.
    pub chain : Chained (slot_at w) st.free
    pub chain_within : (s : ℕ) → st.slots ≤ s → listed s st.free ≡ 0
    -- "It ends with a link of 0 after exactly N minus size slots."
    pub chain_length : size st.tree + length st.free ≡ st.slots
