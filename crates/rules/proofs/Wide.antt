-- Worked cases of the second edition: makings, runs and their refusals, free slots with a key word left in them; and "an arena of one
-- edition given to the other", which "is judged by the other's rules alone". (Rows.antt has its commands.)
use mathlib.Core.List.{List, [], ◌∷◌}
use mathlib.Core.Path.{◌≡◌, refl, ap, subst}
use Prim.Native.Nat.{ℕ, ◌≤◌}
use native.Mathlib.Omega.{arith}
use lib.ListN.{length}
use Rattle.rules.specs.Edition.{M, edition, tags, tags64}
use Rattle.rules.specs.Command.{command_at}
use Rattle.rules.specs.Tree.{hang}
use Rattle.rules.specs.Splay.{walk, splay}
use Rattle.rules.specs.Perform.{State, counting, new, room, outermost, bring, if_present, inserted, seek, raise, perform}
use Rattle.rules.specs.Arena.{Slot, link_after, held, slot_of, all_words, words, place, over, WellFormed}
use Rattle.rules.specs.Reading.{as_map}
use Rattle.rules.specs.Lines.{digit, byte_of, digits, number_from, words_from, spelled, all_spelled, lines_after, lines, line_command, answer_line, respond, output, program_slots, program}
use Rattle.rules.specs.Calls.{Ran, make, Checked, damaged, perform_as, commands, refusal, perform_all, all_answers, run_on, Run}
use Rattle.rules.proofs.Order.{Lawful, tags_lawful, two_words_lawful}
use Rattle.rules.proofs.Sound.{Sound}
use Rattle.rules.proofs.Words.{over_formed}
use Rattle.rules.proofs.Kept.{new_sound, perform_sound}
use Rattle.rules.proofs.Worked.{zeros, bytes, text, no_free_slot}

-- Making: N 0, 4,096 and M; 1, 4,095 and the program's in a word too few and in enough.
makings : ((make tags64 0 (zeros 9)).returned ∷ (make tags64 4096 []).returned ∷ (make tags64 M []).returned
    ∷ (make tags64 1 (zeros 8)).returned ∷ (make tags64 1 (zeros 9)).returned
    ∷ (make tags64 4095 (zeros 20478)).returned ∷ (make tags64 4095 (zeros 20479)).returned
    ∷ (make tags64 program_slots (zeros 5123)).returned ∷ (make tags64 program_slots (zeros 5124)).returned ∷ [])
    ≡ (10 ∷ 10 ∷ 10 ∷ 11 ∷ 0 ∷ 11 ∷ 0 ∷ 11 ∷ 0 ∷ [])
unfolding zeros make
makings = refl

made_two : make tags64 2 (9 ∷ 9 ∷ 9 ∷ 9 ∷ 9 ∷ 9 ∷ 9 ∷ 9 ∷ 9 ∷ 9 ∷ 9 ∷ 9 ∷ 9 ∷ 9 ∷ 9 ∷ [])
    ≡ record { returned = 0; arena = 2 ∷ 0 ∷ 0 ∷ 1 ∷ 0 ∷ 0 ∷ 0 ∷ 2 ∷ M ∷ 0 ∷ 0 ∷ 0 ∷ 0 ∷ M ∷ 9 ∷ [] }
unfolding make words new counting all_words slot_of held link_after
made_two = refl

-- What a run returns, with lists of 0 to 5 and of 8 command words and so many answer words.
abbrev returns : ℕ → ℕ → ℕ
returns cs room = (run_on tags64 as_map (zeros cs) (zeros 14) (zeros room) (new 2)).returned

run_refusals : (returns 0 0 ∷ returns 1 20 ∷ returns 2 20 ∷ returns 3 20 ∷ returns 4 4 ∷ returns 4 5 ∷ returns 5 20 ∷ returns 5 0
    ∷ returns 8 9 ∷ returns 8 10 ∷ [])
    ≡ (0 ∷ 13 ∷ 13 ∷ 13 ∷ 14 ∷ 0 ∷ 13 ∷ 13 ∷ 14 ∷ 0 ∷ [])
unfolding zeros refusal
run_refusals = refl

-- A run: two keys with one low word, one key more (FULL), a number that is no command, prev; a word behind the arena and a word of the
-- buffer stay.
run_two : run_on tags64 as_map
    (5 ∷ 7 ∷ 1 ∷ 70 ∷ 5 ∷ 8 ∷ 1 ∷ 80 ∷ 5 ∷ 7 ∷ 2 ∷ 90 ∷ 13 ∷ 7 ∷ 1 ∷ 0 ∷ 4 ∷ 8 ∷ 1 ∷ 0 ∷ [])
    (2 ∷ 0 ∷ 0 ∷ 1 ∷ 0 ∷ 0 ∷ 0 ∷ 2 ∷ M ∷ 0 ∷ 0 ∷ 0 ∷ 0 ∷ M ∷ 77 ∷ []) (zeros 26) (new 2)
    ≡ record {
      returned = 0;
      arena = 2 ∷ 2 ∷ 2 ∷ 0 ∷ 7 ∷ 1 ∷ 70 ∷ 0 ∷ 0 ∷ 8 ∷ 1 ∷ 80 ∷ 1 ∷ 0 ∷ 77 ∷ [];
      answers =
          2 ∷ 7 ∷ 1 ∷ 0 ∷ 0 ∷ 2 ∷ 8 ∷ 1 ∷ 0 ∷ 2 ∷ 5 ∷ 0 ∷ 0 ∷ 0 ∷ 4 ∷ 7 ∷ 0 ∷ 0 ∷ 0 ∷ 0 ∷ 0 ∷ 7 ∷ 1 ∷ 70 ∷ 5 ∷ 0 ∷ [];
    }
unfolding zeros hang walk splay counting new room outermost bring if_present inserted seek raise perform link_after held slot_of all_words words perform_as commands refusal perform_all all_answers
run_two = refl

-- A free slot with 1 left in its high key word, and with 1 left in its low one.
high_left : (st : State ℕ) → ¬ WellFormed tags64 (1 ∷ 0 ∷ 0 ∷ 1 ∷ 1 ∷ 0 ∷ 0 ∷ 0 ∷ M ∷ []) st
high_left = no_free_slot 2 _ refl (λ next p. let q : ◌≡◌ {A = ℕ} 4294967296 0 = ap (λ (s : Slot ℕ). s.key) p in omega arith)

low_left : (st : State ℕ) → ¬ WellFormed tags64 (1 ∷ 0 ∷ 0 ∷ 1 ∷ 0 ∷ 1 ∷ 0 ∷ 0 ∷ M ∷ []) st
low_left = no_free_slot 2 _ refl (λ next p. let q : ◌≡◌ {A = ℕ} 1 0 = ap (λ (s : Slot ℕ). s.key) p in omega arith)

-- A new arena of one edition, in words enough for the other, which refuses it.
abbrev new_tags : List ℕ
new_tags = 2 ∷ 0 ∷ 0 ∷ 1 ∷ 0 ∷ 0 ∷ 2 ∷ M ∷ 0 ∷ 0 ∷ 0 ∷ M ∷ 0 ∷ 0 ∷ []

abbrev new_wide : List ℕ
new_wide = 2 ∷ 0 ∷ 0 ∷ 1 ∷ 0 ∷ 0 ∷ 0 ∷ 2 ∷ M ∷ 0 ∷ 0 ∷ 0 ∷ 0 ∷ M ∷ []

tags_as_wide : (given : Ran) → Run tags64 as_map [] new_tags [] given → given ≡ record { returned = 12; arena = new_tags; answers = [] }
tags_as_wide given (Checked.well_formed st p e) =
    absurd (no_free_slot 2 new_tags refl (λ next q. let v : ◌≡◌ {A = ℕ} 2 0 = ap (λ (s : Slot ℕ). s.value) q in omega arith) st p)
tags_as_wide given (damaged no_state e) = e

wide_as_tags : (given : Ran) → Run tags as_map [] new_wide [] given → given ≡ record { returned = 12; arena = new_wide; answers = [] }
wide_as_tags given (Checked.well_formed st p e) =
    absurd (no_free_slot 1 new_wide refl (λ next q. let v : ◌≡◌ {A = ℕ} 2 M = ap (λ (s : Slot ℕ). s.right) q in omega arith) st p)
wide_as_tags given (damaged no_state e) = e

-- Words that are an arena of both editions: of 5 with value 50 and, on its left, 2 with value 9; and of 5 50 with value 2 and, on its
-- right, 9 0 with value 0.
abbrev both : List ℕ
both = 2 ∷ 1 ∷ 2 ∷ 0 ∷ 5 ∷ 50 ∷ 2 ∷ 0 ∷ 2 ∷ 9 ∷ 0 ∷ 0 ∷ 0 ∷ 0 ∷ []

abbrev after_three : ℕ → List ℕ → List ℕ → List ℕ → State ℕ
after_three wd a b c =
    let ed = edition wd in
    (perform ed (command_at ed c) (perform ed (command_at ed b) (perform ed (command_at ed a) (new 2)).state).state).state

abbrev of_tags : State ℕ
of_tags = after_three 1 (5 ∷ 5 ∷ 50 ∷ []) (5 ∷ 2 ∷ 9 ∷ []) (1 ∷ 5 ∷ 0 ∷ [])

abbrev of_wide : State ℕ
of_wide = after_three 2 (5 ∷ 5 ∷ 50 ∷ 2 ∷ []) (5 ∷ 9 ∷ 0 ∷ 0 ∷ []) (1 ∷ 5 ∷ 50 ∷ 0 ∷ [])

-- Words that hold what three commands leave of a new arena of 2 slots.
formed : (wd : ℕ) → Lawful (edition wd) → (a b c w : List ℕ) → place (edition wd) (after_three wd a b c).slots ≤ length w
    → over (edition wd) (after_three wd a b c) w ≡ w → WellFormed (edition wd) w (after_three wd a b c)
formed wd laws a b c w long same =
    let ed = edition wd in
    let z : Sound ed (new 2) = new_sound ed 2 (omega arith) (omega arith) in
    let x = perform_sound ed laws (command_at ed a) (new 2) z in
    let y = perform_sound ed laws (command_at ed b) _ x in
    subst (λ (v : List ℕ). WellFormed ed v (after_three wd a b c)) same
    (over_formed ed laws (perform_sound ed laws (command_at ed c) _ y) w long)

both_as_tags : WellFormed tags both of_tags
unfolding hang walk splay counting new room outermost bring if_present inserted seek raise perform link_after held slot_of all_words words
both_as_tags = formed 1 tags_lawful (5 ∷ 5 ∷ 50 ∷ []) (5 ∷ 2 ∷ 9 ∷ []) (1 ∷ 5 ∷ 0 ∷ []) both (omega arith) refl

both_as_wide : WellFormed tags64 both of_wide
unfolding hang walk splay counting new room outermost bring if_present inserted seek raise perform link_after held slot_of all_words words
both_as_wide = formed 2 two_words_lawful (5 ∷ 5 ∷ 50 ∷ 2 ∷ []) (5 ∷ 9 ∷ 0 ∷ 0 ∷ []) (1 ∷ 5 ∷ 50 ∷ 0 ∷ []) both (omega arith) refl

-- A whole case of the line program, as trials/case64.in and .out have it: keys that differ in the high word alone, a bad line, and a line
-- of the first edition, which is bad here.
whole_case : program tags64
    (text
    ("00000005000000000000000500000032"
    ∷ "00000005000000010000000500000033"
    ∷ "00000001000000000000000500000000"
    ∷ "00000001000000010000000500000000"
    ∷ "xyz"
    ∷ "000000050000000500000034"
    ∷ "00000003000000000000000500000000"
    ∷ "0000000400000000ffffffff00000000"
    ∷ "00000002000000020000000500000035"
    ∷ "00000006000000000000000500000000"
    ∷ "00000008000000000000000000000000"
    ∷ "0000000c000000000000000000000000"
    ∷ []))
    ≡ text
    ("0000000200000000000000050000000000000000"
    ∷ "0000000200000001000000050000000000000002"
    ∷ "0000000000000000000000050000003200000004"
    ∷ "0000000000000001000000050000003300000004"
    ∷ "0000000f00000000000000000000000000000000"
    ∷ "0000000f00000000000000000000000000000000"
    ∷ "0000000000000001000000050000003300000005"
    ∷ "0000000000000000000000050000003200000005"
    ∷ "0000000100000000000000000000000000000002"
    ∷ "0000000400000000000000050000003200000004"
    ∷ "0000000000000001000000050000003300000000"
    ∷ "0000000600000000000000000000000100000000"
    ∷ [])
unfolding bytes text hang walk splay counting new room outermost bring if_present inserted seek raise perform digit byte_of digits number_from words_from spelled all_spelled lines_after lines line_command answer_line respond output
whole_case = refl
