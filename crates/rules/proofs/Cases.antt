-- Worked cases of the first edition beyond the tables of arenas, computed from the definitions: every command and code, runs and single
-- commands, the set, making, how many slots there may be, refusals and their order, the history, every byte as a digit, the line program.
use mathlib.Core.List.{List, [], ◌∷◌, ◌++◌, map}
use mathlib.Core.Option.{Option, none as nil, some}
use mathlib.Core.Path.{◌≡◌, refl, ap}
use Prim.Native.Nat.{ℕ, zero, suc, ◌+◌, ◌*◌, ◌≤◌}
use Prim.Native.String.{String}
use native.Mathlib.Omega.{arith}
use lib.ListN.{length, get_or}
use Rattle.rules.specs.Edition.{M, edition, Width, tags}
use Rattle.rules.specs.Command.{Command, get, next, prev, remove, write, insert, min, max, take_first, take_last, clear, len, unknown, command, FOUND, ABSENT, NEW, REPLACED, REMOVED, FULL, COUNT, UNKNOWN, SIZE, SHORT, DAMAGED, RAGGED, NO_ROOM, BAD_LINE, code_number}
use Rattle.rules.specs.Live.{last, but_last, find, put, without, pair, after}
use Rattle.rules.specs.Tree.{hang}
use Rattle.rules.specs.Splay.{walk, splay}
use Rattle.rules.specs.Perform.{State, counting, new, room, outermost, bring, if_present, inserted, seek, raise, perform}
use Rattle.rules.specs.Arena.{Slot, link_after, held, slot_of, all_words, words, over, WellFormed}
use Rattle.rules.specs.Reading.{as_map, as_set}
use Rattle.rules.specs.Calls.{Replied, Ran, make, Checked, damaged, perform_as, One, commands, refusal, perform_all, all_answers, run_on, Run}
use Rattle.rules.specs.History.{one, run, after_all, after_call, live}
use Rattle.rules.specs.Lines.{digit, byte_of, digits, number_from, words_from, spelled, all_spelled, lines_after, lines, line_command, answer_line, respond, output, program_slots, program}
use Rattle.rules.proofs.Order.{edition_lawful}
use Rattle.rules.proofs.Words.{over_formed}
use Rattle.rules.proofs.Kept.{new_sound}
use Rattle.rules.proofs.Worked.{zeros, bytes, text, no_free_slot}

-- The command table, with 0, 13 and M, and the codes.
table : map (λ (n : ℕ). command {K = ℕ} n 8 9) (counting 14 0)
    ≡ (unknown ∷ get 8 ∷ write 8 9 ∷ next 8 ∷ prev 8 ∷ insert 8 9 ∷ remove 8 ∷ min ∷ max ∷ take_first ∷ take_last ∷ clear ∷ len
    ∷ unknown ∷ [])
unfolding counting
table = refl

beyond_table : ◌≡◌ {A = Command ℕ} (command M 8 9) unknown
beyond_table = refl

codes : map code_number (FOUND ∷ ABSENT ∷ NEW ∷ REPLACED ∷ REMOVED ∷ FULL ∷ COUNT ∷ UNKNOWN ∷ []) ≡ counting 8 0
unfolding counting
codes = refl

refusal_codes : map code_number (SIZE ∷ SHORT ∷ DAMAGED ∷ RAGGED ∷ NO_ROOM ∷ BAD_LINE ∷ []) ≡ counting 6 10
unfolding counting
refusal_codes = refl

-- A run: NEW, NEW, FULL, UNKNOWN (0, 13, M), REPLACED (2), REMOVED, COUNT (12, 11); a word behind the arena and a word of the buffer stay.
run_middle : run_on tags as_map
    (5 ∷ 5 ∷ 50 ∷ 5 ∷ 9 ∷ 90 ∷ 5 ∷ 7 ∷ 70 ∷ 0 ∷ 1 ∷ 2 ∷ 13 ∷ 5 ∷ 5 ∷ M ∷ M ∷ M ∷ 2 ∷ 5 ∷ 51 ∷ 6 ∷ 9 ∷ 1 ∷ 12 ∷ 3 ∷ 4 ∷ 11 ∷ 0 ∷ 0 ∷ [])
    (2 ∷ 0 ∷ 0 ∷ 1 ∷ 0 ∷ 0 ∷ 2 ∷ M ∷ 0 ∷ 0 ∷ 0 ∷ M ∷ 77 ∷ []) (zeros 41) (new 2)
    ≡ record {
      returned = 0;
      arena = 2 ∷ 0 ∷ 0 ∷ 1 ∷ 0 ∷ 0 ∷ 2 ∷ 4294967295 ∷ 0 ∷ 0 ∷ 0 ∷ 4294967295 ∷ 77 ∷ [];
      answers =
          2 ∷ 5 ∷ 0 ∷ 0 ∷ 2 ∷ 9 ∷ 0 ∷ 2 ∷ 5 ∷ 0 ∷ 0 ∷ 4 ∷ 7 ∷ 0 ∷ 0 ∷ 0 ∷ 7 ∷ 0 ∷ 0 ∷ 0 ∷ 7 ∷ 0 ∷ 0 ∷ 0
          ∷ 3 ∷ 5 ∷ 50 ∷ 2 ∷ 4 ∷ 9 ∷ 90 ∷ 5 ∷ 6 ∷ 0 ∷ 1 ∷ 0 ∷ 6 ∷ 0 ∷ 1 ∷ 0 ∷ 0 ∷ [];
    }
unfolding zeros hang walk splay counting new room outermost bring if_present inserted seek raise perform link_after held slot_of all_words words perform_as commands refusal perform_all all_answers
run_middle = refl

-- Two entries; min, max, take first, take last; then on the empty tree min, take last, next, prev, and an absent get, write and remove.
ends : (run_on tags as_map
    (5 ∷ 0 ∷ 1 ∷ 5 ∷ M ∷ M ∷ 7 ∷ 0 ∷ 0 ∷ 8 ∷ 0 ∷ 0 ∷ 9 ∷ 0 ∷ 0 ∷ 10 ∷ 0 ∷ 0
    ∷ 7 ∷ 0 ∷ 0 ∷ 10 ∷ 0 ∷ 0 ∷ 3 ∷ 0 ∷ 0 ∷ 4 ∷ M ∷ 0 ∷ 1 ∷ 0 ∷ 0 ∷ 2 ∷ 0 ∷ 0 ∷ 6 ∷ 0 ∷ 0 ∷ [])
    (zeros 12) (zeros 52) (new 2)).answers
    ≡ (2 ∷ 0 ∷ 0 ∷ 0 ∷ 2 ∷ M ∷ 0 ∷ 2 ∷ 0 ∷ 0 ∷ 1 ∷ 0 ∷ 0 ∷ M ∷ M ∷ 0 ∷ 4 ∷ 0 ∷ 1 ∷ 0 ∷ 4 ∷ M ∷ M ∷ 0
    ∷ 1 ∷ 0 ∷ 0 ∷ 0 ∷ 1 ∷ 0 ∷ 0 ∷ 0 ∷ 1 ∷ 0 ∷ 0 ∷ 0 ∷ 1 ∷ 0 ∷ 0 ∷ 0 ∷ 1 ∷ 0 ∷ 0 ∷ 0 ∷ 1 ∷ 0 ∷ 0 ∷ 0 ∷ 1 ∷ 0 ∷ 0 ∷ 0 ∷ [])
unfolding zeros hang walk splay counting new room outermost bring if_present inserted seek raise perform link_after held slot_of all_words words perform_as commands refusal perform_all all_answers
ends = refl

-- "A get of 2 after inserts of 1, 2 and 3" is FOUND.
two_of_three : (run_on tags as_map (5 ∷ 1 ∷ 0 ∷ 5 ∷ 2 ∷ 0 ∷ 5 ∷ 3 ∷ 0 ∷ 1 ∷ 2 ∷ 0 ∷ []) (zeros 16) (zeros 16) (new 3)).answers
    ≡ (2 ∷ 1 ∷ 0 ∷ 0 ∷ 2 ∷ 2 ∷ 0 ∷ 2 ∷ 2 ∷ 3 ∷ 0 ∷ 2 ∷ 0 ∷ 2 ∷ 0 ∷ 4 ∷ [])
unfolding zeros hang walk splay counting new room outermost bring if_present inserted seek raise perform link_after held slot_of all_words words perform_as commands refusal perform_all all_answers
two_of_three = refl

-- "A slot that is freed goes to the front of the chain": two keys inserted, and removed in the same order.
freed : (run_on tags as_map (5 ∷ 1 ∷ 0 ∷ 5 ∷ 2 ∷ 0 ∷ 6 ∷ 1 ∷ 0 ∷ 6 ∷ 2 ∷ 0 ∷ []) (zeros 12) (zeros 16) (new 2)).arena
    ≡ (2 ∷ 0 ∷ 0 ∷ 2 ∷ 0 ∷ 0 ∷ 0 ∷ M ∷ 0 ∷ 0 ∷ 1 ∷ M ∷ [])
unfolding zeros hang walk splay counting new room outermost bring if_present inserted seek raise perform link_after held slot_of all_words words perform_as commands refusal perform_all all_answers
freed = refl

-- A set over values that a map stored: 1, 8, 4, 12, 2, 5, 6. Its 2 is UNKNOWN, its 5 stores 0, it gives no value but a COUNT.
set_over_map : run_on tags as_set
    (1 ∷ 5 ∷ 0 ∷ 8 ∷ 0 ∷ 0 ∷ 4 ∷ 9 ∷ 0 ∷ 12 ∷ 0 ∷ 0 ∷ 2 ∷ 9 ∷ 1 ∷ 5 ∷ 9 ∷ 8 ∷ 6 ∷ 5 ∷ 0 ∷ [])
    (zeros 12) (zeros 28) (perform tags (insert 9 90) (perform tags (insert 5 50) (new 2)).state).state
    ≡ record {
      returned = 0;
      arena = 2 ∷ 2 ∷ 1 ∷ 1 ∷ 0 ∷ 0 ∷ 0 ∷ M ∷ 9 ∷ 0 ∷ 0 ∷ 0 ∷ [];
      answers =
          0 ∷ 5 ∷ 0 ∷ 4 ∷ 0 ∷ 9 ∷ 0 ∷ 0 ∷ 0 ∷ 5 ∷ 0 ∷ 5 ∷ 6 ∷ 0 ∷ 2 ∷ 0 ∷ 7 ∷ 0 ∷ 0 ∷ 0 ∷ 3 ∷ 9 ∷ 0 ∷ 2 ∷ 4 ∷ 5 ∷ 0 ∷ 4 ∷ [];
    }
unfolding zeros hang walk splay counting new room outermost bring if_present inserted seek raise perform link_after held slot_of all_words words perform_as commands refusal perform_all all_answers
set_over_map = refl

-- Making: N 0, 4,096 and M in no words at all; 1, 4,095 and the program's in a word too few and in enough.
makings : ((make tags 0 []).returned ∷ (make tags 4096 []).returned ∷ (make tags M []).returned ∷ (make tags 1 (zeros 7)).returned
    ∷ (make tags 1 (zeros 8)).returned ∷ (make tags 4095 (zeros 16383)).returned ∷ (make tags 4095 (zeros 16384)).returned
    ∷ (make tags program_slots (zeros 4099)).returned ∷ (make tags program_slots (zeros 4100)).returned ∷ [])
    ≡ (10 ∷ 10 ∷ 10 ∷ 11 ∷ 0 ∷ 11 ∷ 0 ∷ 11 ∷ 0 ∷ [])
unfolding zeros make
makings = refl

made_one : make tags 1 (9 ∷ 9 ∷ 9 ∷ 9 ∷ 9 ∷ 9 ∷ 9 ∷ 9 ∷ 9 ∷ [])
    ≡ record { returned = 0; arena = 1 ∷ 0 ∷ 0 ∷ 1 ∷ 0 ∷ 0 ∷ 0 ∷ 4294967295 ∷ 9 ∷ [] }
unfolding make words new counting all_words slot_of held link_after
made_one = refl

-- A refused making changes no word.
short_stays : make tags 1 (9 ∷ []) ≡ record { returned = 11; arena = 9 ∷ [] }
unfolding make
short_stays = refl

-- "The arena has 1,024 slots, made in words that are all zero."
program_arena : make tags program_slots (zeros 4100) ≡ record { returned = 0; arena = words tags (new program_slots) }
unfolding zeros make words new counting all_words slot_of held link_after
program_arena = refl

-- "N, the number of slots, from 1 to 4,095", in both editions: no words with N 0 or above 4,095 are a well-formed arena, whatever else
-- stands in them; and for every N between, the words of a new arena are one.
module _ {wd : ℕ} where
  no_slots : (w : List ℕ) (st : State ℕ) → get_or w 0 0 ≡ 0 → ¬ WellFormed (edition wd) w st
  no_slots w st e a = omega (arith, a.slots, a.some_slot)

  too_many_slots : (w : List ℕ) (st : State ℕ) → 4096 ≤ get_or w 0 0 → ¬ WellFormed (edition wd) w st
  too_many_slots w st h a = omega (arith, a.slots, a.in_range)

  each_number_of_slots : (n : ℕ) (w : List ℕ) → Width wd → 1 ≤ n → n ≤ 4095 → 4 + (3 + wd) * n ≤ length w
      → WellFormed (edition wd) (over (edition wd) (new n) w) (new n)
  unfolding new
  each_number_of_slots n w d h k p = over_formed (edition wd) (edition_lawful d) (new_sound (edition wd) n h k) w p

-- What a run returns, with an empty list, 2, 4 and 3 command words and so many answer words.
abbrev returns : List ℕ → ℕ → ℕ
returns cs room = (run_on tags as_map cs (zeros 12) (zeros room) (new 2)).returned

run_refusals : (returns [] 0 ∷ returns (12 ∷ 0 ∷ []) 4 ∷ returns (12 ∷ 0 ∷ 0 ∷ 0 ∷ []) 0 ∷ returns (12 ∷ 0 ∷ 0 ∷ []) 3
    ∷ returns (12 ∷ 0 ∷ 0 ∷ []) 4 ∷ [])
    ≡ (0 ∷ 13 ∷ 13 ∷ 14 ∷ 0 ∷ [])
unfolding zeros refusal
run_refusals = refl

-- A refused run leaves the arena and the buffer.
no_room_stays : run_on tags as_map (11 ∷ 0 ∷ 0 ∷ []) (8 ∷ 9 ∷ []) (1 ∷ 2 ∷ 3 ∷ []) (new 2)
    ≡ record { returned = 14; arena = 8 ∷ 9 ∷ []; answers = 1 ∷ 2 ∷ 3 ∷ [] }
unfolding refusal
no_room_stays = refl

-- "A chain through the tree": slot 0 is the root's and also the chain's one slot, as many as the count asks.
abbrev through_tree : List ℕ
through_tree = 2 ∷ 1 ∷ 1 ∷ 1 ∷ 5 ∷ 50 ∷ 0 ∷ 0 ∷ 0 ∷ 0 ∷ 0 ∷ M ∷ []

through_tree_damaged : (st : State ℕ) → ¬ WellFormed tags through_tree st
through_tree_damaged =
    no_free_slot 1 through_tree refl (λ next p. let q : ◌≡◌ {A = ℕ} 5 0 = ap (λ (s : Slot ℕ). s.key) p in omega arith)

-- DAMAGED comes before RAGGED, and no word changes.
through_tree_run : (given : Ran) → Run tags as_map (12 ∷ 0 ∷ []) through_tree (7 ∷ 8 ∷ []) given
    → given ≡ record { returned = 12; arena = through_tree; answers = 7 ∷ 8 ∷ [] }
through_tree_run given (Checked.well_formed st p e) = absurd (through_tree_damaged st p)
through_tree_run given (damaged no_state e) = e

-- "A call for one command that is refused answers the code and three zeros."
through_tree_one : (given : Replied) → One tags as_map 12 0 0 through_tree given
    → given ≡ record { answer = 12 ∷ 0 ∷ 0 ∷ 0 ∷ []; arena = through_tree }
through_tree_one given (Checked.well_formed st p e) = absurd (through_tree_damaged st p)
through_tree_one given (damaged no_state e) = e

-- The live entries after calls of both readings; the last two are refused (NO ROOM, RAGGED) and do nothing.
live_after : live tags 2
    (one as_map 5 5 50 ∷ run as_map (5 ∷ 9 ∷ 90 ∷ 5 ∷ 7 ∷ 70 ∷ 2 ∷ 5 ∷ 51 ∷ []) (zeros 12)
    ∷ run as_set (2 ∷ 9 ∷ 1 ∷ 5 ∷ 9 ∷ 7 ∷ []) (zeros 8) ∷ run as_map (11 ∷ 0 ∷ 0 ∷ []) (zeros 3) ∷ run as_map (11 ∷ 0 ∷ []) (zeros 30) ∷ []) []
    ≡ (pair tags 5 51 ∷ pair tags 9 0 ∷ [])
unfolding zeros commands refusal last but_last find put without after after_all after_call live
live_after = refl

-- A byte is a digit where it is one of 0 to 9 or a to f, and nowhere else, of all 256; and the bytes of the digits.
unfoldable no_digits : ℕ → List (Option ℕ)
no_digits zero = []
no_digits (suc n) = nil ∷ no_digits n

all_bytes : map digit (counting 256 0)
    ≡ no_digits 48
    ++ (some 0 ∷ some 1 ∷ some 2 ∷ some 3 ∷ some 4 ∷ some 5 ∷ some 6 ∷ some 7 ∷ some 8 ∷ some 9 ∷ no_digits 39)
    ++ (some 10 ∷ some 11 ∷ some 12 ∷ some 13 ∷ some 14 ∷ some 15 ∷ no_digits 153)
unfolding no_digits counting digit
all_bytes = refl

all_digits : map byte_of (counting 16 0) ≡ bytes "0123456789abcdef"
unfolding bytes counting byte_of
all_digits = refl

-- "A whole case" of the line program.
whole_case : program tags (text ("000000050000000500000032" ∷ "000000010000000500000000" ∷ "xyz" ∷ "000000060000000700000000" ∷ []))
    ≡ text
    ("00000002000000050000000000000000"
    ∷ "00000000000000050000003200000002"
    ∷ "0000000f000000000000000000000000"
    ∷ "00000001000000000000000000000002"
    ∷ [])
unfolding bytes text hang walk splay counting new room outermost bring if_present inserted seek raise perform digit byte_of digits number_from words_from spelled all_spelled lines_after lines line_command answer_line respond output
whole_case = refl

-- BAD LINE: an empty line, one with a carriage return, 23 and 25 digits, upper case, a byte before 0 and one behind f.
abbrev bad_line : String
bad_line = "0000000f000000000000000000000000"

bad_lines : program tags
    (text
    (""
    ∷ "0000000c0000000000000000\r"
    ∷ "0000000c000000000000000"
    ∷ "0000000c00000000000000000"
    ∷ "0000000C0000000000000000"
    ∷ "0000000/0000000000000000"
    ∷ "0000000g0000000000000000"
    ∷ []))
    ≡ text (bad_line ∷ bad_line ∷ bad_line ∷ bad_line ∷ bad_line ∷ bad_line ∷ bad_line ∷ [])
unfolding bytes text hang walk splay counting new room outermost bring if_present inserted seek raise perform digit byte_of digits number_from words_from spelled all_spelled lines_after lines line_command answer_line respond output
bad_lines = refl

-- Numbers 0, 13 and M, and a last line without its newline: its answer has one.
last_line : program tags
    (text ("000000000000000000000000" ∷ "0000000d0000000000000000" ∷ "ffffffffffffffffffffffff" ∷ []) ++ bytes "0000000c0000000000000000")
    ≡ text
    ("00000007000000000000000000000000"
    ∷ "00000007000000000000000000000000"
    ∷ "00000007000000000000000000000000"
    ∷ "00000006000000000000000000000000"
    ∷ [])
unfolding bytes text hang walk splay counting new room outermost bring if_present inserted seek raise perform digit byte_of digits number_from words_from spelled all_spelled lines_after lines line_command answer_line respond output
last_line = refl

-- "Without input there is no output."
no_input : program tags [] ≡ []
unfolding lines_after lines respond output
no_input = refl
