-- The three demands, as theorems about the contracts of the public functions: `make`, `One` and `Run`, for every edition. That each call
-- ends without a fault, whatever words it is lent, is what is proved of every function.
use mathlib.Core.List.{List, [], ◌∷◌, ◌++◌}
use mathlib.Core.Logic.{◌↔◌}
use mathlib.Core.Option.{none as nil}
use mathlib.Core.Path.{◌≡◌, refl, sym, ◌∙◌, ap}
use Prim.Native.Nat.{ℕ, ◌*◌, ◌%◌, ◌≤◌, ◌<◌}
use native.Mathlib.Nat.{mul-zero, zero-div}
use native.Mathlib.Omega.{arith}
use lib.ListN.{length, take, drop, get_or}
use Rattle.rules.specs.Edition.{Edition, most_slots, Small}
use Rattle.rules.specs.Command.{command, insert, FULL, NEW, UNKNOWN, SIZE, SHORT, DAMAGED, RAGGED, NO_ROOM, code_number, accepted, Reply, answer_words, command_size, answer_size}
use Rattle.rules.specs.Live.{Pair, find, reply}
use Rattle.rules.specs.Perform.{State, new}
use Rattle.rules.specs.Arena.{place, over, WellFormed}
use Rattle.rules.specs.Reading.{Reading, read_as, reply_as}
use Rattle.rules.specs.Calls.{Replied, Ran, make, well_formed, damaged, perform_as, One, commands, how_many, commands_of, perform_all, all_answers, Run}
use Rattle.rules.specs.History.{Call, live}
use Rattle.rules.specs.Demands.{Given, Happened, History, Left, InUse, Holding, OneFollows, RunFollows, Follow, command_words}
use Rattle.rules.proofs.Order.{Lawful}
use Rattle.rules.proofs.WellFormed.{the_state, the_words, one_outcome}
use Rattle.rules.proofs.Run.{perform_all_length}
use Rattle.rules.proofs.Checked.{checked_formed, checked_damaged, make_size, make_short, make_new, make_refused, refusal_ragged, refusal_no_room, refusal_none, run_accepted, run_unchanged, refusal_empty}
use Rattle.rules.proofs.Slots.{all_used}
use Rattle.rules.proofs.Replies.{full_exactly}
use Rattle.rules.proofs.Happened.{run_refuses, one_gives, one_told, one_step, run_gives, run_told, run_step, all_steps, new_holds, can_happen, happened_parts, same_happened}
use Rattle.rules.proofs.Cut.{commands_length, answers_length, run_lengths, cut, alone}

module _ {K : Type 0} (ed : Edition K) where
  -- DEMAND 1. "It refuses what the table of whole calls names and nothing else, and a refused call has changed no word that it was lent."

  -- "10 SIZE": "making: N is 0 or above 4,095".
  pub demand_1_size : (n : ℕ) (w : List ℕ) → (1 ≤ n → n ≤ most_slots → ⊥)
      → make ed n w ≡ record { returned = code_number SIZE; arena = w }
  demand_1_size n w h = make_size ed n w h

  -- "11 SHORT": "making: there are fewer than 4+4N words".
  pub demand_1_short : (n : ℕ) (w : List ℕ) → 1 ≤ n → n ≤ most_slots → length w < place ed n
      → make ed n w ≡ record { returned = code_number SHORT; arena = w }
  demand_1_short n w h k p = make_short ed n w h k p

  -- Every other making is accepted, and leaves the words of a new arena.
  pub demand_1_made : (n : ℕ) (w : List ℕ) → 1 ≤ n → n ≤ most_slots → place ed n ≤ length w
      → make ed n w ≡ record { returned = accepted; arena = over ed (new n) w }
  demand_1_made n w h k p = make_new ed n w h k p

  -- A making that is not accepted changes no word.
  pub demand_1_make_refused : (n : ℕ) (w : List ℕ) → ((make ed n w).returned ≡ accepted → ⊥) → (make ed n w).arena ≡ w
  demand_1_make_refused n w h = make_refused ed n w h

  -- "12 DAMAGED": "the arena is not well formed". A single command answers the code and zeros, and no word of the arena changes.
  pub demand_1_damaged_one : (r : Reading) (m : ℕ) (k : K) (v : ℕ) (w : List ℕ) (given : Replied)
      → ((st : State K) → ¬ WellFormed ed w st) → One ed r m k v w given
      → given ≡ record { answer = code_number DAMAGED ∷ (ed.spell ed.zero_key ++ (0 ∷ 0 ∷ [])); arena = w }
  demand_1_damaged_one r m k v w given no_state h = checked_damaged ed no_state h

  -- A run returns the code, and no word of the arena or of the answer buffer changes; this comes before every other refusal.
  pub demand_1_damaged_run : (r : Reading) (cs w buffer : List ℕ) (given : Ran)
      → ((st : State K) → ¬ WellFormed ed w st) → Run ed r cs w buffer given
      → given ≡ record { returned = code_number DAMAGED; arena = w; answers = buffer }
  demand_1_damaged_run r cs w buffer given no_state h = checked_damaged ed no_state h

  -- "13 RAGGED": "the number of command words is no multiple of 3" (of the words that a command takes).
  pub demand_1_ragged : (r : Reading) (cs w buffer : List ℕ) (given : Ran) (st : State K) → WellFormed ed w st
      → (length cs % command_size ed ≡ 0 → ⊥) → Run ed r cs w buffer given
      → given ≡ record { returned = code_number RAGGED; arena = w; answers = buffer }
  demand_1_ragged r cs w buffer given st a h g = run_refuses ed r cs RAGGED a (refusal_ragged ed cs (length buffer) h) g

  -- "14 NO ROOM": "there are fewer than 4 answer words for each command" (than the words that an answer takes).
  pub demand_1_no_room : (r : Reading) (cs w buffer : List ℕ) (given : Ran) (st : State K) → WellFormed ed w st
      → length cs % command_size ed ≡ 0 → length buffer < answer_size ed * how_many ed cs → Run ed r cs w buffer given
      → given ≡ record { returned = code_number NO_ROOM; arena = w; answers = buffer }
  demand_1_no_room r cs w buffer given st a h k g = run_refuses ed r cs NO_ROOM a (refusal_no_room ed cs (length buffer) h k) g

  -- A run that does not return 0 changes no lent word.
  pub demand_1_run_refused : (r : Reading) (cs w buffer : List ℕ) (given : Ran) → Run ed r cs w buffer given
      → (given.returned ≡ accepted → ⊥) → (given.arena ≡ w) × (given.answers ≡ buffer)
  demand_1_run_refused r cs w buffer given g h = run_unchanged ed r cs g h

  module _ (laws : Lawful ed) where
    -- Every other run is accepted.
    pub demand_1_accepted : (r : Reading) (cs w buffer : List ℕ) (given : Ran) (st : State K) → WellFormed ed w st
        → length cs % command_size ed ≡ 0 → answer_size ed * how_many ed cs ≤ length buffer → Run ed r cs w buffer given
        → given.returned ≡ accepted
    demand_1_accepted r cs w buffer given st a h k g = (run_gives ed laws r cs a (refusal_none ed cs (length buffer) h k) g).0

    -- DAMAGED tells a damaged arena, of a single command and of a run.
    pub demand_1_one_damaged_exactly : (r : Reading) (m : ℕ) (k : K) (v : ℕ) (w : List ℕ) (given : Replied) → One ed r m k v w given
        → (get_or given.answer 0 0 ≡ code_number DAMAGED) ↔ ((st : State K) → ¬ WellFormed ed w st)
    demand_1_one_damaged_exactly r m k v w given g = (
      λ e st a. let p = one_told ed laws r m k v a g in omega arith,
      λ no_state. rw (checked_damaged ed no_state g),
    )

    pub demand_1_run_damaged_exactly : (r : Reading) (cs w buffer : List ℕ) (given : Ran) → Run ed r cs w buffer given
        → (given.returned ≡ code_number DAMAGED) ↔ ((st : State K) → ¬ WellFormed ed w st)
    demand_1_run_damaged_exactly r cs w buffer given g = (
      λ e st a. run_told ed laws r cs a g e,
      λ no_state. rw (checked_damaged ed no_state g),
    )

    -- "No length changes", of the arena or of the answer buffer.
    pub demand_1_one_lengths : (r : Reading) (m : ℕ) (k : K) (v : ℕ) (w : List ℕ) (given : Replied) → One ed r m k v w given
        → length given.arena ≡ length w
    demand_1_one_lengths r m k v w given (well_formed st a e) = (one_gives ed laws r m k v a (well_formed st a e)).1.as_long
    demand_1_one_lengths r m k v w given (damaged no_state e) = rw e

    pub demand_1_run_lengths : (r : Reading) (cs w buffer : List ℕ) (given : Ran) → Run ed r cs w buffer given
        → (length given.arena ≡ length w) × (length given.answers ≡ length buffer)
    demand_1_run_lengths r cs w buffer given g = run_lengths ed laws r cs g

    -- "A run of no commands on a well-formed arena is accepted and changes nothing."
    pub demand_1_empty_run : (r : Reading) (w buffer : List ℕ) (given : Ran) (st : State K) → Small w → WellFormed ed w st → Run ed r [] w buffer given
        → given ≡ record { returned = accepted; arena = w; answers = buffer }
    unfolding commands perform_all all_answers
    demand_1_empty_run r w buffer given st m a g =
        checked_formed ed a g
        ∙ rw (refusal_empty ed (length buffer), zero-div (command_size ed), mul-zero (answer_size ed), ← the_words ed laws w m a)

    -- DEMAND 2. "On a well-formed arena a command gives the entry, the answer and the count that the Rust gives, and the tree after each
    -- command is, word for word, the tree of these rules." The rules are `perform`, as the map or the set reads the command; that the Rust
    -- gives the same is tried (docs/DIFFERENCES.md), and no theorem.

    -- A single command on an arena that holds the state st: every word of its answer, and every word that it leaves.
    pub demand_2_one : (r : Reading) (m : ℕ) (k : K) (v : ℕ) (w : List ℕ) (given : Replied) (st : State K) → WellFormed ed w st
        → One ed r m k v w given
        → (given.answer ≡ answer_words ed (perform_as ed r (command m k v) st).answer)
        × Left ed st.slots w (perform_as ed r (command m k v) st).state given.arena
    demand_2_one r m k v w given st a g = one_gives ed laws r m k v a g

    -- A run there that is not refused does its commands in order: the answers' words one after the other, the words beyond them in the
    -- buffer as they were, and every word that the last command leaves.
    pub demand_2_run : (r : Reading) (cs w buffer : List ℕ) (given : Ran) (st : State K) → WellFormed ed w st
        → length cs % command_size ed ≡ 0 → answer_size ed * how_many ed cs ≤ length buffer → Run ed r cs w buffer given
        → (given.returned ≡ accepted)
        × (given.answers
        ≡ all_answers ed (perform_all ed r (commands_of ed cs) st).answers ++ drop (answer_size ed * how_many ed cs) buffer)
        × Left ed st.slots w (perform_all ed r (commands_of ed cs) st).state given.arena
    demand_2_run r cs w buffer given st a h k g = run_gives ed laws r cs a (refusal_none ed cs (length buffer) h k) g

    -- There is an answer for each command, and each answer takes as many words as the others.
    pub demand_2_each : (r : Reading) (cs : List ℕ) (st : State K)
        → (length (perform_all ed r (commands_of ed cs) st).answers ≡ how_many ed cs)
        × (length (all_answers ed (perform_all ed r (commands_of ed cs) st).answers) ≡ answer_size ed * how_many ed cs)
    demand_2_each r cs st =
        (perform_all_length ed r (commands_of ed cs) st ∙ commands_length ed (how_many ed cs) cs, answers_length ed laws r cs st)

    -- The state is the arena's alone, and the arena's words are the state's alone.
    pub demand_2_state : (w : List ℕ) (st st' : State K) → WellFormed ed w st → WellFormed ed w st' → st ≡ st'
    demand_2_state w st st' a b = the_state ed a b

    pub demand_2_words : (w : List ℕ) (st : State K) → Small w → WellFormed ed w st → w ≡ over ed st w
    demand_2_words w st m a = the_words ed laws w m a

    -- DEMAND 3. "Take an arena newly made with N slots and any calls on it, single commands and runs, of the map or of the set, accepted or
    -- refused, in any order, with nobody else writing to it."
    module _ (n : ℕ) (w₀ : List ℕ) (calls : List (Call K)) (gave : List Given) (w : List ℕ) (h : History ed n w₀ calls gave w) where
      -- "The arena holds exactly the live entries, in ascending order; every other slot has key 0 and value 0 and is on the chain exactly
      -- once".
      pub demand_3_holds : Holding ed n (live ed n calls []) w
      demand_3_holds = (all_steps ed laws (new_holds ed laws n w₀ h.made) h.happened).0

      -- "Code, key and value of every answer follow from the live entries, N and the command".
      pub demand_3_answers : Follow ed n [] calls gave
      demand_3_answers = (all_steps ed laws (new_holds ed laws n w₀ h.made) h.happened).1

      -- So does the answer of whatever call comes next.
      pub demand_3_one : (r : Reading) (m : ℕ) (k : K) (v : ℕ) (given : Replied) → One ed r m k v w given
          → OneFollows ed n (live ed n calls []) r m k v given
      demand_3_one r m k v given g = (one_step ed laws r m k v demand_3_holds g).1

      pub demand_3_run : (r : Reading) (cs buffer : List ℕ) (given : Ran) → Run ed r cs w buffer given
          → RunFollows ed n (live ed n calls []) r cs buffer given
      demand_3_run r cs buffer given g = (run_step ed laws r cs demand_3_holds g).1

      -- No call finds the arena damaged: a single command's code is one of 0 to 7, and no run returns DAMAGED.
      pub demand_3_one_undamaged : (r : Reading) (m : ℕ) (k : K) (v : ℕ) (given : Replied) → One ed r m k v w given
          → get_or given.answer 0 0 ≤ code_number UNKNOWN
      demand_3_one_undamaged r m k v given g = one_told ed laws r m k v demand_3_holds.formed g

      pub demand_3_run_undamaged : (r : Reading) (cs buffer : List ℕ) (given : Ran) → Run ed r cs w buffer given
          → given.returned ≡ code_number DAMAGED → ⊥
      demand_3_run_undamaged r cs buffer given g = run_told ed laws r cs demand_3_holds.formed g

      -- "A key that is not live is refused as FULL exactly when N entries are live, however many have come and gone"; otherwise it is NEW:
      -- a free slot "can be used again".
      pub demand_3_full : (r : Reading) (k : K) (v : ℕ) (given : Replied) → find ed k (live ed n calls []) ≡ nil → One ed r 5 k v w given
          → ((get_or given.answer 0 0 ≡ code_number FULL) ↔ (length (live ed n calls []) ≡ n))
          × ((get_or given.answer 0 0 ≡ code_number NEW) ↔ (length (live ed n calls []) ≡ n → ⊥))
      demand_3_full r k v given absent g =
          let p = demand_3_one r 5 k v given g in
          rw p.2
          (full_exactly ed r n k v (live ed n calls []) absent p.0.code (sym (ap (λ (q : Reply K). q.code) p.1)))

      -- No slot is lost: where the live keys number the slots, every slot holds a live entry.
      pub demand_3_usable : length (live ed n calls []) ≡ n → (s : ℕ) → s < n
          → InUse ed (live ed n calls []) w demand_3_holds.state s
      demand_3_usable e s b = all_used ed demand_3_holds e s b

    -- Whatever the calls are, there is a history of them on every new arena.
    pub demand_3_any_calls : (n : ℕ) (w₀ : List ℕ) (calls : List (Call K)) → (make ed n w₀).returned ≡ accepted
        → (gave : List Given) × (w : List ℕ) × History ed n w₀ calls gave w
    demand_3_any_calls n w₀ calls e =
        let x = can_happen ed laws calls (new_holds ed laws n w₀ e) in (x.0, x.1, record { made = e; happened = x.2 })

    -- FULL and NEW of any command of a run too: what it replies where l are live before it.
    pub demand_3_full_reply : (r : Reading) (n : ℕ) (k : K) (v : ℕ) (l : List (Pair K)) → find ed k l ≡ nil
        → ((code_number (reply_as r (reply ed n (read_as r (insert k v)) l)).code ≡ code_number FULL) ↔ (length l ≡ n))
        × ((code_number (reply_as r (reply ed n (read_as r (insert k v)) l)).code ≡ code_number NEW) ↔ (length l ≡ n → ⊥))
    demand_3_full_reply r n k v l absent = full_exactly ed r n k v l absent _ refl

    -- At every point of a history the calls before it are a history, so that all this holds there too.
    pub demand_3_before : (n : ℕ) (w₀ : List ℕ) (before rest : List (Call K)) (gave : List Given) (w : List ℕ)
        → History ed n w₀ (before ++ rest) gave w
        → (gave₁ gave₂ : List Given) × (w₁ : List ℕ) × (gave ≡ gave₁ ++ gave₂)
        × History ed n w₀ before gave₁ w₁ × Happened ed rest w₁ gave₂ w
    demand_3_before n w₀ before rest gave w h =
        let x = happened_parts ed before rest h.happened in
        (x.0, x.1, x.2, x.3, record { made = h.made; happened = x.4 }, x.5)

    -- RUNS CUT ANYWHERE. "The answers and the words left are the same": two accepted runs after each other give the answers of one run of
    -- all their commands, where that has room for them, and leave the same words.
    pub cut_anywhere : (r : Reading) (cs ds w b b₁ b₂ : List ℕ) (given given₁ given₂ : Ran)
        → Run ed r cs w b₁ given₁ → given₁.returned ≡ accepted → Run ed r ds given₁.arena b₂ given₂ → given₂.returned ≡ accepted
        → Run ed r (cs ++ ds) w b given → answer_size ed * how_many ed (cs ++ ds) ≤ length b
        → (given.returned ≡ accepted)
        × (given.arena ≡ given₂.arena)
        × (take (answer_size ed * how_many ed (cs ++ ds)) given.answers
        ≡ take (answer_size ed * how_many ed cs) given₁.answers ++ take (answer_size ed * how_many ed ds) given₂.answers)
    cut_anywhere r cs ds w b b₁ b₂ given given₁ given₂ g₁ e₁ g₂ e₂ g room =
        let x = run_accepted ed r cs g₁ e₁ in
        let y = run_accepted ed r ds g₂ e₂ in
        cut ed laws r cs ds x.1 x.2 y.2 room g₁ g₂ g

    -- A single command gives the answer of a run of it alone, and leaves the same words.
    pub cut_single : (r : Reading) (m : ℕ) (k : K) (v : ℕ) (w b : List ℕ) (given : Replied) (given' : Ran) (st : State K)
        → WellFormed ed w st → One ed r m k v w given → Run ed r (command_words ed m k v) w b given' → answer_size ed ≤ length b
        → (given'.returned ≡ accepted)
        × (given'.arena ≡ given.arena)
        × (given'.answers ≡ given.answer ++ drop (answer_size ed) b)
    cut_single r m k v w b given given' st a g g' room = alone ed laws r m k v a room g g'

module _ {K : Type 0} (ed : Edition K) where
  -- NO SECOND OUTCOME. "For every input, a refused one too, its contract leaves one answer and one content of each lent word."
  pub one_outcome_one : (r : Reading) (m : ℕ) (k : K) (v : ℕ) (w : List ℕ) (given given' : Replied) → One ed r m k v w given
      → One ed r m k v w given' → given ≡ given'
  one_outcome_one r m k v w given given' g g' = one_outcome ed g g'

  pub one_outcome_run : (r : Reading) (cs w buffer : List ℕ) (given given' : Ran) → Run ed r cs w buffer given
      → Run ed r cs w buffer given' → given ≡ given'
  one_outcome_run r cs w buffer given given' g g' = one_outcome ed g g'

  -- Two histories of the same calls on the same words gave the same, and left the same words.
  pub one_outcome_history : (n : ℕ) (w₀ : List ℕ) (calls : List (Call K)) (gave gave' : List Given) (w w' : List ℕ)
      → History ed n w₀ calls gave w → History ed n w₀ calls gave' w' → (gave ≡ gave') × (w ≡ w')
  one_outcome_history n w₀ calls gave gave' w w' h h' = same_happened ed h.happened h'.happened
