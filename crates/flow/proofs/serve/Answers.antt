-- The loop begins with no byte taken, takes one and what follows it, and ends where no byte or no room is left.
use Rattle.std.proofs.Common.{refl, ◌∙◌, arith}
use Rattle.rules.specs.Edition.{edition}
use Rattle.rules.proofs.Order.{edition_lawful}
use Rattle.heads.proofs.Settle.{small}
use Rattle.flow.proofs.Ended.{own_words}
use Rattle.flow.proofs.Onward.{begun, reach, over_now, no_byte, no_room}
use Rattle.flow.proofs.serve.Goals as goal

pub loop-fed-init : goal.loop-fed-init
loop-fed-init g c =
    let v = g.met.K.Key.width in
    let w = c.args.a.now in
    record {
      arena = refl;
      room = refl;
      so = λ st f. begun (edition _) (edition_lawful v) _ _ _ _ _ f (own_words v w (small w c.type_inv.a) f);
    }

pub loop-fed-preserved : goal.loop-fed-preserved
loop-fed-preserved g c =
    let i = c.loop-fed.invariant in
    record {
      arena = c.advance-fed.auto.a ∙ i.arena;
      room = c.advance-fed.auto.out ∙ i.room;
      so = λ st f.
          reach (edition _) (edition_lawful g.met.K.Key.width) _ _ _ _ st (i.so st f) (c.advance-fed.ensures.stepped _ (i.so st f).so.formed);
    }

pub returns-else-fed-room : goal.returns-else-fed-room
returns-else-fed-room g c st f =
    let ed = edition g.K.Key.WORDS in
    let laws = edition_lawful g.met.K.Key.width in
    let l = c.loop-fed in
    over_now ed laws _ _ _ _ st (l.invariant.so st f)
    (no_room ed laws _ l.fed.written _ (omega (arith, c.if-fed-room.false, l.invariant.room, c.answer_bytes-room.ensures)))

pub returns-after-loop-fed : goal.returns-after-loop-fed
returns-after-loop-fed g c st f =
    let ed = edition g.K.Key.WORDS in
    let laws = edition_lawful g.met.K.Key.width in
    over_now ed laws _ _ _ _ st (c.loop-fed.invariant.so st f) (no_byte ed laws _ c.loop-fed.fed.read _ (omega (arith, c.loop-fed-test.false)))
