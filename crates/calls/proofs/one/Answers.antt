-- `calls::one` does its command on an arena that the check found well formed.
use Rattle.rules.specs.Calls.{well_formed}
use Rattle.formed.proofs.Tells.{found}
use Rattle.calls.proofs.Called.{replied}
use Rattle.calls.proofs.one.Goals as goal

pub returns-clause-fits : goal.returns-clause-fits
returns-clause-fits g c = rw c.spelled_number.ensures.same at c.spelled_number.ensures.fits

pub returns-clause-one : goal.returns-clause-one
returns-clause-one g c =
    let (st, f) = found c.check.ensures c.if-not-check.false in
    well_formed st f (replied _ _ st (c.command_as-r.ensures st f))
