-- What "the demands" speak of: calls that happened one after the other on an arena, and what has to hold of the arena and of the answers.
-- The theorems are in proofs/Demands.antt.
use Rattle.std.specs.Prelude.{List, [], ◌∷◌, ◌++◌, map, ◌⊎◌, ◌≡◌, ℕ, ◌+◌, ◌*◌, ◌<◌, length, drop}
use Rattle.std.proofs.Math.Option.{Option, none as nil, some}
use Rattle.rules.specs.Edition.{Edition}
use Rattle.rules.specs.Command.{command, Code, code_number, accepted, Reply, Answer, said, answer_words, answer_size}
use Rattle.rules.specs.Live.{Pair, Ascending, find, pair, reply}
use Rattle.rules.specs.Tree.{times, entries}
use Rattle.rules.specs.Perform.{State}
use Rattle.rules.specs.Arena.{link_after, listed, free_slot, place, slot_at, over, WellFormed}
use Rattle.rules.specs.Reading.{Reading, read_as, reply_as}
use Rattle.rules.specs.Calls.{Replied, Ran, make, One, how_many, commands_of, refusal, all_answers, Run}
use Rattle.rules.specs.History.{Call, one, run, replies_all, after_call}

-- What a call gave: for one command, or for a run.
pub data Given : Type 0 where
  replied : Replied → Given
  ran : Ran → Given

module _ {K : Type 0} (ed : Edition K) where
  -- The calls happened in this order, on the words w; each gave what its contract allows, on the words that the one before left; and w'
  -- are the words after the last.
  pub data Happened : List (Call K) → List ℕ → List Given → List ℕ → Type 0 where
    nothing_yet : {w : List ℕ} → Happened [] w [] w
    one_first : {r : Reading} {m : ℕ} {k : K} {v : ℕ} {calls : List (Call K)} {w : List ℕ} {given : Replied} {gave : List Given} {w' : List ℕ}
        → One ed r m k v w given → Happened calls given.arena gave w'
        → Happened (one r m k v ∷ calls) w (replied given ∷ gave) w'
    run_first : {r : Reading} {cs buffer : List ℕ} {calls : List (Call K)} {w : List ℕ} {given : Ran} {gave : List Given} {w' : List ℕ}
        → Run ed r cs w buffer given → Happened calls given.arena gave w'
        → Happened (run r cs buffer ∷ calls) w (ran given ∷ gave) w'

  -- The words of one command, as a run takes them: "its number, a key and a value".
  abbrev pub command_words : ℕ → K → ℕ → List ℕ
  command_words m k v = m ∷ (ed.spell k ++ (v ∷ []))

  -- A history: "an arena newly made with N slots and any calls on it". The making, of n slots in the words w₀, was accepted, and then the
  -- calls happened.
  pub record History (n : ℕ) (w₀ : List ℕ) (calls : List (Call K)) (gave : List Given) (w : List ℕ) : Type 0 where
    pub made : (make ed n w₀).returned ≡ accepted
    pub happened : Happened calls (make ed n w₀).arena gave w

  -- The words w' are, "word for word", those of the state st' written over w: they are a well-formed arena that holds it, with as many
  -- slots as before, as many words, and the same words behind the last slot.
  pub record Left (slots_before : ℕ) (w : List ℕ) (st' : State K) (w' : List ℕ) : Type 0 where
    pub every_word : w' ≡ over ed st' w
    pub formed : WellFormed ed w' st'
    pub slots : st'.slots ≡ slots_before
    pub as_long : length w' ≡ length w
    pub behind : drop (place ed slots_before) w' ≡ drop (place ed slots_before) w

  -- The slot s holds a live entry, and is not on the chain.
  pub record InUse (l : List (Pair K)) (w : List ℕ) (st : State K) (s : ℕ) : Type 0 where
    pub in_tree : times s st.tree ≡ 1
    pub off_chain : listed s st.free ≡ 0
    pub live_there : let c = slot_at ed w s in find ed c.key l ≡ some (pair ed c.key c.value)

  -- The slot s holds no entry: it "has key 0 and value 0 and is on the chain exactly once".
  pub record Free (w : List ℕ) (st : State K) (s : ℕ) : Type 0 where
    pub off_tree : times s st.tree ≡ 0
    pub on_chain : listed s st.free ≡ 1
    pub zeros : slot_at ed w s ≡ free_slot ed (link_after s st.free)

  -- The live entry p stands in a slot below n.
  pub record Stands (n : ℕ) (w : List ℕ) (p : Pair K) : Type 0 where
    pub slot : ℕ
    pub below : slot < n
    pub its_key : (slot_at ed w slot).key ≡ p.key
    pub its_value : (slot_at ed w slot).value ≡ p.value

  -- "The arena holds exactly the live entries, in ascending order": the words w are an arena of n slots, and l are the entries. Each stands
  -- in a slot, no key in two, and every other slot is free.
  pub record Holding (n : ℕ) (l : List (Pair K)) (w : List ℕ) : Type 0 where
    pub state : State K
    pub formed : WellFormed ed w state
    pub slots : state.slots ≡ n
    pub exactly : entries state.tree ≡ l
    pub ascending : Ascending ed l
    pub number : length l + length state.free ≡ n
    pub each_entry : (k : K) (p : Pair K) → find ed k l ≡ some p → Stands n w p
    pub each_slot : (s : ℕ) → s < n → InUse l w state s ⊎ Free w state s
    pub none_twice : (s s' : ℕ) → InUse l w state s → InUse l w state s' → (slot_at ed w s).key ≡ (slot_at ed w s').key → s ≡ s'

  -- The words are those of an answer that says the reply, with some count.
  abbrev pub Tells : Reply K → List ℕ → Type 0
  Tells p w = (a : Answer K) × (said a ≡ p) × (w ≡ answer_words ed a)

  -- The words are those of answers that say the replies one after the other, each with some count, and then the rest.
  abbrev pub TellsAll : List (Reply K) → List ℕ → List ℕ → Type 0
  TellsAll ps rest w = (a : List (Answer K)) × (map said a ≡ ps) × (w ≡ all_answers ed a ++ rest)

  -- What a single command gives, where the entries l are live on an arena of n slots.
  abbrev pub OneFollows : ℕ → List (Pair K) → Reading → ℕ → K → ℕ → Replied → Type 0
  OneFollows n l r m k v given = Tells (reply_as r (reply ed n (read_as r (command m k v)) l)) given.answer

  -- What a run gives, there: a refused one its code and the buffer as it was, an accepted one the answers of its commands in order.
  abbrev pub RunFollowsBy : Option Code → ℕ → List (Pair K) → Reading → List ℕ → List ℕ → Ran → Type 0
  RunFollowsBy (some c) n l r cs buffer given = (given.returned ≡ code_number c) × (given.answers ≡ buffer)
  RunFollowsBy nil n l r cs buffer given =
      (given.returned ≡ accepted)
      × TellsAll (replies_all ed n r (commands_of ed cs) l) (drop (answer_size ed * how_many ed cs) buffer) given.answers

  abbrev pub RunFollows : ℕ → List (Pair K) → Reading → List ℕ → List ℕ → Ran → Type 0
  RunFollows n l r cs buffer given = RunFollowsBy (refusal ed cs (length buffer)) n l r cs buffer given

  -- What each of the calls gave follows from the entries that were live before it, n and the call; l are live before the first.
  pub data Follow (n : ℕ) : List (Pair K) → List (Call K) → List Given → Type 0 where
    no_call : {l : List (Pair K)} → Follow n l [] []
    one_follows : {l : List (Pair K)} {r : Reading} {m : ℕ} {k : K} {v : ℕ} {calls : List (Call K)} {given : Replied} {gave : List Given}
        → OneFollows n l r m k v given → Follow n (after_call ed n (one r m k v) l) calls gave
        → Follow n l (one r m k v ∷ calls) (replied given ∷ gave)
    run_follows : {l : List (Pair K)} {r : Reading} {cs buffer : List ℕ} {calls : List (Call K)} {given : Ran} {gave : List Given}
        → RunFollows n l r cs buffer given → Follow n (after_call ed n (run r cs buffer) l) calls gave
        → Follow n l (run r cs buffer ∷ calls) (ran given ∷ gave)
