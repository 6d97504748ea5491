-- The arena's head is read from its words, and stored there again.
use Rattle.std.proofs.Common.{sym, arith, rules}
use Rattle.heads.proofs.Settle.{small, small_set}
use Rattle.commands.proofs.Whole.{arena_headed, arena_did}
use Rattle.commands.proofs.command.Goals as goal

pub obey-d-requires-clause-somehow_with : goal.obey-d-requires-clause-somehow_with
obey-d-requires-clause-somehow_with g c = let (st, f, v) = c.requires in (st, arena_headed f, sym f.slots, v)

pub returns : goal.returns
returns g c st f =
    let m = small c.obey-d.new.a (search rules) in
    arena_did f _
    (record { width = c.requires.2; before = small _ (search rules); after = search (arith, small_set, m) })
    (c.obey-d.ensures st (arena_headed f) (sym f.slots))
