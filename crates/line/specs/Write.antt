-- The line of an answer, from its words.
use Rattle.std.specs.Prelude.{List, [], ◌∷◌, ◌++◌, ℕ}
use Rattle.rules.specs.Edition.{edition}
use Rattle.rules.specs.Lines.{newline, all_spelled}

-- Code, key, value and count, with a key of so many words, and the newline.
abbrev pub line_of_words : ℕ → ℕ → ℕ → ℕ → ℕ → List ℕ
line_of_words wd c k v n = all_spelled (c ∷ ((edition wd).spell k ++ (v ∷ n ∷ []))) ++ (newline ∷ [])
