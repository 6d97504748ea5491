-- As many bytes as a command has are the whole line, and no other line is a command.
use Rattle.std.proofs.Common.{rules, sym, ◌∙◌, ap, arith}
use Rattle.rules.specs.Edition.{edition}
use Rattle.rules.specs.Lines.{line_command}
use Rattle.flow.proofs.Ended.{whole, not_whole}
use Rattle.flow.proofs.said.Goals as goal

pub returns-then-pending-most : goal.returns-then-pending-most
returns-then-pending-most g c =
    sym (not_whole (edition _) g.met.K.Key.width.two c.args.pending (search rules) (rw c.command_bytes-most.ensures at c.if-pending-most.true))

pub returns : goal.returns
returns g c =
    let e = c.command_bytes-most.ensures in
    let ed = edition g.K.Key.WORDS in
    let kept = whole ed g.met.K.Key.width.two c.args.pending (search rules) (omega (arith, c.if-pending-most.false, e)) in
    (rw e at c.read_with.ensures.command) ∙ ap (line_command ed) (sym kept)
