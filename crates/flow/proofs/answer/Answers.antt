-- A bad line is answered so, and any other by its command.
use Rattle.std.proofs.Common.{sym, ◌∙◌, ap}
use Rattle.heads.proofs.Settle.{small}
use Rattle.line.specs.Read.{meant}
use Rattle.flow.proofs.Ended.{own_words, answered_bad}
use Rattle.flow.proofs.answer.Goals as goal

pub returns-in-None : goal.returns-in-None
returns-in-None g c st f =
    let w = c.args.a.now in
    let own = own_words g.met.K.Key.width w (small w c.type_inv.a) f in
    answered_bad _ (sym c.said.ensures ∙ ap (meant _) c.in-None.is) f own (rw (c.from.ensures, c.zero.ensures) at c.write_answer.ensures)
