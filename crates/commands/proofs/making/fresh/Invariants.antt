-- Each turn chains one slot.
use Rattle.commands.proofs.Chaining.{Chaining}
use Rattle.commands.proofs.making.fresh.Given as goal

abbrev pub invariant-loop-x : goal.invariant-loop-x
invariant-loop-x g l = Chaining g.K.Key.WORDS l.initial.a l.a l.x
