-- What a call about one key tells of it, and the arena afterwards.
use Rattle.std.specs.Prelude.{List, ℕ, Result, Ok, Err}
use Rattle.rules.specs.Edition.{edition}
use Rattle.rules.specs.Command.{Command, Code, FOUND, ABSENT, NEW, REPLACED, REMOVED, FULL, COUNT, UNKNOWN, SIZE, SHORT, DAMAGED, RAGGED, NO_ROOM, BAD_LINE}
use Rattle.rules.specs.Perform.{State}
use Rattle.rules.specs.Arena.{over}
use Rattle.rules.specs.Reading.{as_set}
use Rattle.rules.specs.Calls.{Checked, perform_as}
use Rattle.members.specs.declared.Was.{Was}
use Rattle.members.specs.declared.Was.TheVariants as is
use Rattle.members.specs.declared.Refused.{Refused}
use Rattle.members.specs.declared.Refused.TheVariants as refused

-- By the answer's code: "0 FOUND, 3 REPLACED and 4 REMOVED say that it was, 1 ABSENT and 2 NEW that it was not, and 5 FULL and 12 DAMAGED
-- have words of their own." No other code answers a call about a key.
abbrev pub was_of : Code → Result Was Refused
was_of FOUND = Ok is.There
was_of ABSENT = Ok is.Absent
was_of NEW = Ok is.Absent
was_of REPLACED = Ok is.There
was_of REMOVED = Ok is.There
was_of FULL = Err refused.Full
was_of COUNT = Err refused.Damaged
was_of UNKNOWN = Err refused.Damaged
was_of SIZE = Err refused.Damaged
was_of SHORT = Err refused.Damaged
was_of DAMAGED = Err refused.Damaged
was_of RAGGED = Err refused.Damaged
was_of NO_ROOM = Err refused.Damaged
was_of BAD_LINE = Err refused.Damaged

-- What a call about one key gives.
pub record Told : Type 0 where
  pub was : Result Was Refused
  pub arena : List ℕ

abbrev pub told_on : ℕ → Command ℕ → List ℕ → State ℕ → Told
told_on wd c w st =
    let o = perform_as (edition wd) as_set c st in
    record { was = was_of o.answer.code; arena = over (edition wd) o.state w }

-- A call for the set's command c on the arena w, whose keys take wd words, gives `given`.
abbrev pub Asks : ℕ → Command ℕ → List ℕ → Told → Type 0
Asks wd c w given = Checked (edition wd) w (told_on wd c w) (record { was = Err refused.Damaged; arena = w }) given
