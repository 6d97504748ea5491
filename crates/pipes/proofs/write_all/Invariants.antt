-- `write_all` ends with its tries, and what was taken so far stands before the rest.
use Rattle.std.proofs.Common.{◌≡◌, ◌++◌, List, ℕ}
use Rattle.std.specs.Io.KnownBytes.{Appends}
use Rattle.pipes.proofs.write_all.Given as goal

abbrev pub invariant-loop : goal.invariant-loop
invariant-loop g l = (sent : List ℕ) × (sent ++ l.rest ≡ l.buf) × Appends (g.W.Write.contents l.initial.to) (g.W.Write.contents l.to) sent
