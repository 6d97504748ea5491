-- The table's rule is one test over its 256 entries, which antt computes.
use Rattle.rules.specs.Lines.{digit}
use Rattle.digits.specs.Read.{coded}
use Rattle.digits.proofs.Table.{at}
use Rattle.digits.proofs.digits.Digits.new.Goals as goal

pub invariant_of-result : goal.invariant_of-result
unfolding digit
invariant_of-result c = record { right = λ b h. let t : Unit {0} = tt in rw (at (λ b. coded (digit b))) }
