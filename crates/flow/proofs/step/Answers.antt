-- A newline answers the line, and any other byte makes it longer.
use Rattle.rules.specs.Edition.{edition}
use Rattle.rules.proofs.Order.{edition_lawful}
use Rattle.heads.proofs.Settle.{small}
use Rattle.flow.proofs.Ended.{own_words}
use Rattle.flow.proofs.Taken.{step_ended, step_longer}
use Rattle.flow.proofs.step.Goals as goal

pub returns-then-b-eq-NEWLINE : goal.returns-then-b-eq-NEWLINE
returns-then-b-eq-NEWLINE g c st f =
    rw c.answer_bytes.ensures
    (step_ended (edition _) (edition_lawful g.met.K.Key.width) c.args.fed c.args.b c.if-b-eq-NEWLINE.true
    c.no_line.ensures c.requires.room.0 (c.answer.ensures st f))

pub returns : goal.returns
returns g c st f =
    let width = g.met.K.Key.width in
    let w = c.args.a.now in
    step_longer (edition _) (edition_lawful width) c.args.out.now c.args.fed c.args.b c.if-b-eq-NEWLINE.false c.longer.ensures
    c.requires.room.0 f (own_words width w (small w c.type_inv.a) f)
