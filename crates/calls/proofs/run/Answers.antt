-- `calls::run` refuses a ragged list or too little room, and else does the commands, on an arena that the check found well formed.
use Rattle.rules.specs.Calls.{well_formed}
use Rattle.formed.proofs.Tells.{found}
use Rattle.calls.proofs.Running.{ran_ragged, ran_short, ran}
use Rattle.calls.proofs.run.Goals as goal

pub returns-then-list-WORDS-ne0 : goal.returns-then-list-WORDS-ne0
returns-then-list-WORDS-ne0 g c =
    let (st, f) = found c.check.ensures c.if-not-check.false in
    well_formed st f (ran_ragged _ _ _ _ _ st (rw c.WORDS.ensures at c.if-list-WORDS-ne0.true))

pub returns-then-answers-WORDS : goal.returns-then-answers-WORDS
returns-then-answers-WORDS g c =
    let (st, f) = found c.check.ensures c.if-not-check.false in
    well_formed st f
    (ran_short _ _ _ _ _ st (rw c.WORDS.ensures at c.if-list-WORDS-ne0.false)
    (rw (c.WORDS-2.ensures, c.WORDS-3.ensures) at c.if-answers-WORDS.true))

pub returns : goal.returns
returns g c =
    let (st, f) = found c.check.ensures c.if-not-check.false in
    well_formed st f
    (ran _ _ _ _ _ st _ _ (rw c.WORDS.ensures at c.if-list-WORDS-ne0.false)
    (rw (c.WORDS-2.ensures, c.WORDS-3.ensures) at c.if-answers-WORDS.false) (c.run_all.ensures st f))
