-- The twelve arenas and the six of docs/RULES.md, and the rows of the second source for both editions: every answer and every word, by
-- computation.
use mathlib.Core.List.{[], ◌∷◌}
use mathlib.Core.Path.{◌≡◌, refl}
use Rattle.rules.specs.Edition.{M, tags, tags64}
use Rattle.rules.specs.Tree.{hang}
use Rattle.rules.specs.Splay.{walk, splay}
use Rattle.rules.specs.Perform.{counting, new, room, outermost, bring, if_present, inserted, seek, raise, perform}
use Rattle.rules.specs.Arena.{link_after, held, slot_of, all_words, words}
use Rattle.rules.specs.Calls.{perform_as}
use Rattle.rules.specs.Story.{numbers_from, numbers, told, all_told, given, all_given}
use Rattle.rules.specs.Twelve.{twelve, six}
use Rattle.rules.specs.Rows.{rows, wide_rows}

-- How the tables are written.
read : numbers "10 4095, M 0 M-5, 7" ≡ (10 ∷ 4095 ∷ M ∷ 0 ∷ 4294967290 ∷ 7 ∷ [])
unfolding numbers_from
read = refl

pub twelve_hold : all_given tags twelve ≡ all_told twelve
unfolding hang walk splay counting new room outermost bring if_present inserted seek raise perform link_after held slot_of all_words words perform_as numbers_from told all_told given all_given twelve
twelve_hold = refl

pub six_hold : all_given tags64 six ≡ all_told six
unfolding hang walk splay counting new room outermost bring if_present inserted seek raise perform link_after held slot_of all_words words perform_as numbers_from told all_told given all_given six
six_hold = refl

pub rows_hold : all_given tags rows ≡ all_told rows
unfolding hang walk splay counting new room outermost bring if_present inserted seek raise perform link_after held slot_of all_words words perform_as numbers_from told all_told given all_given rows
rows_hold = refl

pub wide_rows_hold : all_given tags64 wide_rows ≡ all_told wide_rows
unfolding hang walk splay counting new room outermost bring if_present inserted seek raise perform link_after held slot_of all_words words perform_as numbers_from told all_told given all_given wide_rows
wide_rows_hold = refl
