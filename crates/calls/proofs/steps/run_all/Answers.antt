-- `calls::steps::run_all` does the commands in order: a turn does the first that is left, and its answer stands behind those before it.
use Rattle.std.proofs.Common.{◌+◌, arith, length-drop}
use Rattle.rules.specs.Edition.{edition}
use Rattle.rules.specs.Calls.{perform_all}
use Rattle.heads.proofs.Settle.{small}
use Rattle.calls.proofs.Running.{to_end, back, begin, some_left, more, finished}
use Rattle.calls.proofs.steps.run_all.Goals as goal

pub rest-init : goal.rest-init
rest-init g c =
    let (st, f, h) = c.requires.formed in
    let b = begin _ _ _ _ _ h st f (small c.args.a.now c.type_inv.a) c.requires.room.0 c.requires.room.1 in
    record { running = b; left = some_left _ _ _ _ _ b }

pub step-requires-clause-room : goal.step-requires-clause-room
step-requires-clause-room g c =
    let at = c.rest.at in
    let out = c.rest.answers in
    let left = c.rest.invariant.left (omega (arith, c.rest-test.true)) in
    (left.0, rw (to_end at out) (omega (arith, left.1, length-drop at out)))

pub rest-preserved : goal.rest-preserved
rest-preserved g c =
    let i = c.rest.invariant.running in
    let at = c.rest.at in
    let out = c.rest.answers in
    let rest = c.rest.rest.now in
    let wd = g.K.Key.WORDS in
    let left = c.rest.invariant.left (omega (arith, c.rest-test.true)) in
    let q = rw (to_end at out) at (c.step.ensures (perform_all (edition wd) _ i.done i.start).state i.formed) in
    let m = more _ _ _ _ _ i c.step.new.a c.step.new.out (omega (arith, c.rest-test.true)) q in
    rw (c.WORDS.ensures, c.WORDS-in-rest.ensures, to_end (2 + wd) rest, back at out c.step.new.out (omega (arith, left.1)))
    (record { running = m; left = some_left _ _ _ _ _ m })

pub returns : goal.returns
returns g c st f = finished _ _ _ _ _ c.rest.invariant.running (omega (arith, c.rest-test.false)) st f
