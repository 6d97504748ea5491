-- The line with one byte more, where there is still a place for it and where there is none.
use Rattle.std.proofs.Common.{◌+◌, ◌*◌, arith, lt-ltb, le-ltb}
use Rattle.flow.specs.Stream.{longer}
use Rattle.flow.proofs.longer.Goals as goal

pub returns-then-len-most : goal.returns-then-len-most
unfolding longer
returns-then-len-most g c =
    rw (lt-ltb c.args.pending.len (8 * (2 + g.K.Key.WORDS)) (omega (arith, c.if-len-most.true, c.command_bytes-most.ensures)))

pub returns : goal.returns
unfolding longer
returns g c =
    rw (
      le-ltb c.args.pending.len (8 * (2 + g.K.Key.WORDS)) (omega (arith, c.if-len-most.false, c.command_bytes-most.ensures)),
      c.command_bytes-most.ensures,
    )
