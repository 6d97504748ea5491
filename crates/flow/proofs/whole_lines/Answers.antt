-- The lines that stand whole: none of them yet, one more, and all that the loop took.
use Rattle.std.proofs.Common.{◌+◌, ◌≤◌, length, take, drop, refl, sym, ap, ◌∙◌, arith, length-drop}
use Rattle.rules.specs.Edition.{edition}
use Rattle.rules.proofs.Order.{edition_lawful}
use Rattle.heads.proofs.Settle.{small}
use Rattle.line.specs.Read.{meant}
use Rattle.flow.specs.Stream.{command_bytes}
use Rattle.flow.proofs.Ended.{own_words}
use Rattle.flow.proofs.Whole.{none_yet, one_more, in_front, to_end}
use Rattle.flow.proofs.whole_lines.Goals as goal

pub loop-written-init : goal.loop-written-init
loop-written-init g c =
    let v = g.met.K.Key.width in
    let w = c.args.a.now in
    record {
      arena = refl;
      room = refl;
      from = omega arith;
      within = c.requires.room.0;
      fits = c.requires.room.1;
      so = λ st f. none_yet (edition _) (edition_lawful v) v.two _ _ _ _ st f (own_words v w (small w c.type_inv.a) f) c.requires.room.1;
    }

pub loop-written-preserved : goal.loop-written-preserved
loop-written-preserved g c =
    let v = g.met.K.Key.width in
    let ed = edition g.K.Key.WORDS in
    let l = c.loop-written in
    let i = l.invariant in
    let input = c.args.input.now in
    let rest = drop l.read input in
    let room = c.answer_bytes-room.ensures in
    let size = c.command_bytes-line.ensures in
    let there = sym (rw (to_end l.read input) at c.front.ensures) ∙ ap (meant g.K.Key.number) c.in-Some.is in
    let long : l.read + (command_bytes ed + 1) ≤ length input = omega (arith, (in_front ed rest there).long, length-drop l.read input) in
    record {
      arena = c.obey.auto.a ∙ i.arena;
      room = c.obey.auto.out ∙ i.room;
      from = omega (arith, i.from);
      within = omega (arith, long, size);
      fits = omega (arith, c.loop-written-test.true, i.room, room);
      so = λ st f.
          rw (room, size)
          (one_more ed (edition_lawful v) v.two _ _ _ _ st l.read l.written (i.so st f) i.from there
          (omega (arith, c.loop-written-test.true, i.room, room))
          (c.obey.ensures (take (command_bytes ed) rest) _ (in_front ed rest there).asks (i.so st f).formed));
    }
