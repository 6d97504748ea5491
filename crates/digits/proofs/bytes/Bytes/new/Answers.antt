-- The table's rule is one test over its 16 entries, which antt computes.
use Rattle.rules.specs.Lines.{byte_of}
use Rattle.digits.proofs.Table.{at}
use Rattle.digits.proofs.bytes.Bytes.new.Goals as goal

pub invariant_of-result : goal.invariant_of-result
unfolding byte_of
invariant_of-result c = record { right = λ d h. let t : Unit {0} = tt in rw (at byte_of) }
