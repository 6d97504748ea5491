-- The code's names for commands, answers and refusals, as the rules name them.
use Rattle.std.specs.Prelude.{◌≡◌, ℕ, Result, Ok, Err, ⊤}
use Rattle.rules.specs.Command as rules
use Rattle.rules.specs.Command.{FOUND, ABSENT, NEW, REPLACED, REMOVED, FULL, COUNT, UNKNOWN, SIZE, SHORT, DAMAGED, RAGGED, NO_ROOM, BAD_LINE, code_number, accepted}
use Rattle.heads.specs.declared.answer.Answer.{Answer}
use Rattle.heads.specs.declared.answer.Code.{Code}
use Rattle.heads.specs.declared.answer.Code.TheVariants as code
use Rattle.heads.specs.declared.command.Command.{Command}
use Rattle.heads.specs.declared.command.Command.TheVariants as is
use Rattle.heads.specs.declared.refusal.Refusal.{Refusal}
use Rattle.heads.specs.declared.refusal.Refusal.TheVariants as refusal

abbrev pub code_of : Code → rules.Code
code_of code.Found = FOUND
code_of code.Absent = ABSENT
code_of code.New = NEW
code_of code.Replaced = REPLACED
code_of code.Removed = REMOVED
code_of code.Full = FULL
code_of code.Count = COUNT
code_of code.Unknown = UNKNOWN
code_of code.Size = SIZE
code_of code.Short = SHORT
code_of code.Damaged = DAMAGED
code_of code.Ragged = RAGGED
code_of code.NoRoom = NO_ROOM
code_of code.BadLine = BAD_LINE

abbrev pub refused_with : Refusal → rules.Code
refused_with refusal.Size = SIZE
refused_with refusal.Short = SHORT
refused_with refusal.Damaged = DAMAGED
refused_with refusal.Ragged = RAGGED
refused_with refusal.NoRoom = NO_ROOM

-- "A making or a run returns 0 where it is accepted, and the code where it is refused."
abbrev pub returned : Result ⊤ Refusal → ℕ
returned (Ok done) = accepted
returned (Err why) = code_number (refused_with why)

module _ {K : Type 0} (number : K → ℕ) where
  -- The command that the rules know, with its key as a number.
  abbrev pub meant : Command K → rules.Command ℕ
  meant (is.Get k) = rules.get (number k)
  meant (is.Write k v) = rules.write (number k) v
  meant (is.Next k) = rules.next (number k)
  meant (is.Prev k) = rules.prev (number k)
  meant (is.Insert k v) = rules.insert (number k) v
  meant (is.Remove k) = rules.remove (number k)
  meant is.Min = rules.min
  meant is.Max = rules.max
  meant is.TakeFirst = rules.take_first
  meant is.TakeLast = rules.take_last
  meant is.Clear = rules.clear
  meant is.Len = rules.len
  meant is.Unknown = rules.unknown

  -- The answer r has this code, key, value and count.
  pub record Words (r : Answer K) (c : Code) (k v n : ℕ) : Type 0 where
    pub code : r.code ≡ c
    pub key : number r.key ≡ k
    pub value : r.value ≡ v
    pub count : r.count ≡ n

  -- The answer r is the rules' answer a.
  pub record Says (r : Answer K) (a : rules.Answer ℕ) : Type 0 where
    pub code : code_of r.code ≡ a.code
    pub key : number r.key ≡ a.key
    pub value : r.value ≡ a.value
    pub count : r.count ≡ a.count
