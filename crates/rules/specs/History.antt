-- Demand 3's history: calls on an arena that was newly made and that only they wrote, and the entries live after them.
use Rattle.std.specs.Prelude.{List, [], ◌∷◌, ℕ, length}
use Rattle.std.proofs.Math.Option.{Option, none as nil, some}
use Rattle.rules.specs.Edition.{Edition}
use Rattle.rules.specs.Command.{Command, command, Code, Reply}
use Rattle.rules.specs.Live.{Pair, after, reply}
use Rattle.rules.specs.Reading.{Reading, read_as, reply_as}
use Rattle.rules.specs.Calls.{commands_of, refusal}

-- A call, with all that it is given besides the arena: one command, "its number, a key and a value"; or a run's command words and the words
-- of the answer buffer that it is lent. "A command given to the set counts as the set reads it."
pub data Call (K : Type 0) : Type 0 where
  one : Reading → ℕ → K → ℕ → Call K
  run : Reading → List ℕ → List ℕ → Call K

module _ {K : Type 0} (ed : Edition K) where
  -- The entries after commands in order, and what each answers.
  unfoldable pub after_all : ℕ → Reading → List (Command K) → List (Pair K) → List (Pair K)
  after_all n r [] l = l
  after_all n r (c ∷ cs) l = after_all n r cs (after ed n (read_as r c) l)

  unfoldable pub replies_all : ℕ → Reading → List (Command K) → List (Pair K) → List (Reply K)
  replies_all n r [] l = []
  replies_all n r (c ∷ cs) l = reply_as r (reply ed n (read_as r c) l) ∷ replies_all n r cs (after ed n (read_as r c) l)

  -- "A refused call does no command."
  abbrev pub done_by : Option Code → List ℕ → List (Command K)
  done_by nil w = commands_of ed w
  done_by (some c) w = []

  -- The entries after a call. Of the answer buffer only its length counts: a run that has too little room is refused.
  unfoldable pub after_call : ℕ → Call K → List (Pair K) → List (Pair K)
  after_call n (one r m k v) l = after ed n (read_as r (command m k v)) l
  after_call n (run r cs buffer) l = after_all n r (done_by (refusal ed cs (length buffer)) cs) l

  -- Which keys are live with which value after calls in order on an arena of n slots, from those that were live before: none for a new
  -- arena.
  unfoldable pub live : ℕ → List (Call K) → List (Pair K) → List (Pair K)
  live n [] l = l
  live n (c ∷ cs) l = live n cs (after_call n c l)
