-- The last slot ends the chain.
use Rattle.std.proofs.Common.{arith, rules}
use Rattle.heads.proofs.Settle.{fair}
use Rattle.commands.proofs.Chaining.{chain_end}
use Rattle.commands.proofs.making.fresh.Goals as goal

pub returns : goal.returns
returns g c =
    let r = c.requires in
    let p =
    chain_end c.args.a.now (fair g.met.K.Key.width (search rules) (search rules)) r.0 r.1 r.2 c.loop-x.invariant (omega arith)
    (rw c.zero-2.ensures at c.fill-2.ensures) in
    (p.words, p.formed)
