-- How the map and the set read a command and word an answer.
use Rattle.std.specs.Prelude.{ℕ, eqb}
use Rattle.rules.specs.Order.{choose}
use Rattle.rules.specs.Command.{Command, get, next, prev, remove, write, insert, min, max, take_first, take_last, clear, len, unknown, Code, COUNT, code_number, Reply, Answer, said}

pub data Reading : Type 0 where
  as_map as_set : Reading

-- "The value of every entry, an old one too, is given as 0; COUNT and refusals are the map's." Every refusal has value 0.
abbrev pub value_as : Reading → Code → ℕ → ℕ
value_as as_map c v = v
value_as as_set c v = choose (eqb (code_number c) (code_number COUNT)) v 0

module _ {K : Type 0} where
  -- "Its commands are the map's, except that 2 is UNKNOWN and that an insert stores value 0."
  abbrev pub set_command : Command K → Command K
  set_command (get k) = get k
  set_command (write k v) = unknown
  set_command (next k) = next k
  set_command (prev k) = prev k
  set_command (insert k v) = insert k 0
  set_command (remove k) = remove k
  set_command min = min
  set_command max = max
  set_command take_first = take_first
  set_command take_last = take_last
  set_command clear = clear
  set_command len = len
  set_command unknown = unknown

  abbrev pub read_as : Reading → Command K → Command K
  read_as as_map c = c
  read_as as_set c = set_command c

  abbrev pub reply_as : Reading → Reply K → Reply K
  reply_as r p = record { code = p.code; key = p.key; value = value_as r p.code p.value }

  -- The comparisons are the map's.
  abbrev pub answer_as : Reading → Answer K → Answer K
  answer_as r a =
      let p = reply_as r (said a) in record { code = p.code; key = p.key; value = p.value; count = a.count }
