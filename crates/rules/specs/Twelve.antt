-- "Twelve arenas", and "six of the second edition": the tables of docs/RULES.md. The theorems are in proofs/Rows.antt.
use Rattle.std.specs.Prelude.{List, [], ◌∷◌}
use Rattle.rules.specs.Reading.{as_map}
use Rattle.rules.specs.Story.{before, row, Story, story}

unfoldable pub twelve : List Story
twelve =
    -- P1 to P9
    story 2 "2 0 0 1, 0 0 2 M, 0 0 0 M"
    (row as_map "5 5 50" "2 5 0 0" "2 1 1 2, 5 50 0 0, 0 0 0 M"
    ∷ row as_map "5 9 90" "2 9 0 2" "2 2 2 0, 5 50 0 0, 9 90 1 0"
    ∷ row as_map "5 7 70" "5 0 0 4" "2 1 2 0, 5 50 0 2, 9 90 0 0"
    ∷ row as_map "5 9 91" "3 9 90 4" "2 2 2 0, 5 50 0 0, 9 91 1 0"
    ∷ row as_map "6 5 0" "4 5 50 4" "2 2 1 1, 0 0 0 M, 9 91 0 0"
    ∷ row as_map "5 1 10" "2 1 0 2" "2 1 2 0, 1 10 0 2, 9 91 0 0"
    ∷ row as_map "3 1 0" "0 9 91 3" "2 1 2 0, 1 10 0 2, 9 91 0 0"
    ∷ row as_map "10 0 0" "4 9 91 0" "2 1 1 2, 1 10 0 0, 0 0 0 M"
    ∷ [])
    -- P10, and a row more
    ∷ story 4 "4 0 0 1, 0 0 2 M, 0 0 3 M, 0 0 4 M, 0 0 0 M"
    (before as_map "5 1 0"
    ∷ before as_map "5 2 0"
    ∷ before as_map "5 3 0"
    ∷ before as_map "5 4 0"
    ∷ row as_map "1 1 0" "0 1 0 6" "4 1 4 0, 1 0 0 3, 2 0 0 0, 3 0 2 4, 4 0 0 0"
    -- "None of the twelve": a remove whose left subtree has its largest key below its root, so that the second splay shows.
    ∷ row as_map "6 3 0" "4 3 0 6" "4 2 3 3, 1 0 0 0, 2 0 1 4, 0 0 0 M, 4 0 0 0"
    ∷ [])
    -- P11 and P12
    ∷ story 2 "2 0 0 1, 0 0 2 M, 0 0 0 M"
    (before as_map "5 1 0"
    ∷ before as_map "5 2 0"
    ∷ row as_map "1 0 0" "1 0 0 3" "2 1 2 0, 1 0 0 2, 2 0 0 0"
    ∷ row as_map "4 0 0" "1 0 0 2" "2 1 2 0, 1 0 0 2, 2 0 0 0"
    ∷ row as_map "3 M 0" "1 0 0 3" "2 2 2 0, 1 0 0 0, 2 0 1 0"
    ∷ [])
    ∷ []

unfoldable pub six : List Story
six =
    -- W1 to W6
    story 2 "2 0 0 1, 0 0 0 2 M, 0 0 0 0 M"
    (row as_map "5 1 5 50" "2 1 5 0 0" "2 1 1 2, 1 5 50 0 0, 0 0 0 0 M"
    ∷ row as_map "5 0 5 51" "2 0 5 0 2" "2 2 2 0, 1 5 50 0 0, 0 5 51 0 1"
    ∷ row as_map "1 1 5 0" "0 1 5 50 4" "2 1 2 0, 1 5 50 2 0, 0 5 51 0 0"
    ∷ row as_map "6 0 5 0" "4 0 5 51 4" "2 1 1 2, 1 5 50 0 0, 0 0 0 0 M"
    ∷ row as_map "3 0 M 0" "0 1 5 50 2" "2 1 1 2, 1 5 50 0 0, 0 0 0 0 M"
    ∷ [])
    ∷ []
