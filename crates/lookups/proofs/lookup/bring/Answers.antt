-- What the key meets at the root after the splay: the splay has brought a node there, whose key is compared.
use Rattle.std.proofs.Common.{arith}
use Rattle.lookups.proofs.Present.{brought_few, brought_in, brought_here, brought_beside, meets_nobody}
use Rattle.lookups.proofs.lookup.bring.Goals as goal

pub returns-then-root-eq0 : goal.returns-then-root-eq0
returns-then-root-eq0 g c = search meets_nobody

pub overflow_add-n : goal.overflow_add-n
overflow_add-n g c = omega (arith, brought_few _ c.splay-s.ensures c.requires)

pub overflow_cast-n : goal.overflow_cast-n
overflow_cast-n g c = omega (arith, brought_few _ c.splay-s.ensures c.requires)

pub key_of-requires : goal.key_of-requires
key_of-requires g c = brought_in _ c.splay-s.ensures g.met.K.Key.width c.requires c.if-root-eq0.false

pub returns-then-number-key : goal.returns-then-number-key
returns-then-number-key g c t h =
    brought_here _ c.splay-s.ensures c.if-root-eq0.false c.key_of.ensures c.number.ensures (omega arith) h c.if-number-key.true

pub returns : goal.returns
returns g c t h =
    brought_beside _ c.splay-s.ensures c.if-root-eq0.false c.key_of.ensures c.number.ensures (omega arith) h c.if-number-key.false
