-- How a line that was read stands for what the rules say of its bytes.
use Rattle.std.specs.Prelude.{List, ◌≡◌, ℕ, zero, suc, ◌+◌, ◌*◌, eqb, length, get_or, take, drop, Option, Some, None}
use Rattle.std.proofs.Math.Option as rules
use Rattle.std.proofs.Math.Option.{none as nil, some}
use Rattle.rules.specs.Order.{choose}
use Rattle.rules.specs.Edition.{edition, key_in, word_values}
use Rattle.rules.specs.Command.{Command, command, command_size}
use Rattle.rules.specs.Lines.{digits, words_from, line_command}
use Rattle.digits.specs.Read.{word_from}
use Rattle.line.specs.declared.request.Request.{Request}

-- The eight bytes from a place on, as a word.
abbrev pub word_at : List ℕ → ℕ → Option ℕ
word_at l at = word_from 0 (digits (take 8 (drop at l)))

-- A key of two words, if both were read.
abbrev pub key_of_two : Option ℕ → Option ℕ → Option ℕ
key_of_two None low = None
key_of_two (Some high) None = None
key_of_two (Some high) (Some low) = Some (word_values * high + low)

-- The key in a line: its second word, or its second and third, the high one first.
abbrev pub key_from : ℕ → List ℕ → Option ℕ
key_from zero l = None
key_from (suc zero) l = word_at l 8
key_from (suc (suc n)) l = key_of_two (word_at l 8) (word_at l 16)

abbrev pub words_of : ℕ → rules.Option (List ℕ) → rules.Option (List ℕ)
words_of n nil = nil
words_of n (some ds) = some (words_from n ds)

-- The words of a line that holds exactly the digits of a command.
unfoldable pub line_words : ℕ → List ℕ → rules.Option (List ℕ)
line_words wd l = choose (eqb (length l) (8 * command_size (edition wd))) (words_of (command_size (edition wd)) (digits l)) nil

-- Number, key and value of a line, if it has them.
abbrev pub line_of : ℕ → rules.Option (List ℕ) → Option (Request ℕ)
line_of wd nil = None
line_of wd (some ws) = Some (record { number = get_or ws 0 0; key = key_in wd ws 1; value = get_or ws (1 + wd) 0 })

module _ {K : Type 0} (number : K → ℕ) where
  -- The same words, with the key as a number.
  abbrev pub worded : Option (Request K) → Option (Request ℕ)
  worded None = None
  worded (Some r) = Some (record { number = r.number; key = number r.key; value = r.value })

  -- The command that a line asks for.
  abbrev pub meant : Option (Request K) → rules.Option (Command ℕ)
  meant None = nil
  meant (Some r) = some (command r.number (number r.key) r.value)

  -- What was read from a line: its words, one by one, and with them the command that the rules give it.
  pub record Reads (wd : ℕ) (l : List ℕ) (r : Option (Request K)) : Type 0 where
    pub words : worded r ≡ line_of wd (line_words wd l)
    pub command : meant r ≡ line_command (edition wd) l
