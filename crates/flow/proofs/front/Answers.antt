-- What stands in front: nothing where the bytes are too few or no newline ends them, and else the command that they say.
use Rattle.std.proofs.Common.{◌≡◌, get_or, sym, ◌∙◌, arith}
use Rattle.rules.specs.Edition.{edition}
use Rattle.flow.proofs.Whole.{front_short, front_other, front_whole}
use Rattle.flow.proofs.front.Goals as goal

pub returns-then-bytes-end : goal.returns-then-bytes-end
returns-then-bytes-end g c = sym (front_short (edition _) _ (omega (arith, c.if-bytes-end.true, c.command_bytes-end.ensures)))

pub returns-then-bytes-end-ne-NEWLINE : goal.returns-then-bytes-end-ne-NEWLINE
returns-then-bytes-end-ne-NEWLINE g c =
    let e = c.command_bytes-end.ensures in
    sym (front_other (edition _) _ (omega (arith, c.if-bytes-end.false, e)) (rw e at c.if-bytes-end-ne-NEWLINE.true))

pub returns : goal.returns
returns g c =
    let bytes = c.args.bytes.now in
    let e = c.command_bytes-end.ensures in
    let end : get_or bytes c.command_bytes-end.result 0 ≡ 10 = omega arith in
    (rw e at c.read_with.ensures.command) ∙ sym (front_whole (edition _) bytes (omega (arith, c.if-bytes-end.false, e)) (rw e at end))
