-- The byte is taken, and after a newline the lines that stand whole behind it.
use Rattle.std.proofs.Common.{rules}
use Rattle.rules.specs.Edition.{edition}
use Rattle.rules.proofs.Order.{edition_lawful}
use Rattle.flow.proofs.Onward.{one_byte, ended_line, then_lines}
use Rattle.flow.proofs.advance.Goals as goal

pub whole_lines-requires-clause-formed : goal.whole_lines-requires-clause-formed
whole_lines-requires-clause-formed g c =
    let (st, f, v) = c.requires.formed in
    let x = c.step-next.ensures st f in
    ((_, x.formed, v), ended_line (edition _) (edition_lawful v) c.args.input.now c.requires.room.0 x (search rules))

pub returns-then-b-eq-NEWLINE-clause-stepped : goal.returns-then-b-eq-NEWLINE-clause-stepped
returns-then-b-eq-NEWLINE-clause-stepped g c st f =
    let x = c.step-next.ensures st f in
    then_lines (edition _) (edition_lawful g.met.K.Key.width) c.args.input.now c.requires.room.0 x (c.whole_lines.ensures _ x.formed)

pub returns-clause-stepped : goal.returns-clause-stepped
returns-clause-stepped g c st f =
    one_byte (edition _) (edition_lawful g.met.K.Key.width) c.args.input.now c.requires.room.0 (c.step-next.ensures st f)
