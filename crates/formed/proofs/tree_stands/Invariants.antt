-- The answer to what is left to be asked at x is the answer, and the scratch words in use are links up to n.
use Rattle.std.proofs.Common.{Bool, ℕ, ◌+◌, ◌-◌, ◌*◌, ◌<◌, ◌≤◌, get_or}
use Rattle.rules.specs.Edition.{edition}
use Rattle.formed.specs.Verdict.{Tells, TreeStands}
use Rattle.formed.proofs.Along.{Asked}
use Rattle.formed.proofs.tree_stands.Given as goal

abbrev pub invariant-loop-x : goal.invariant-loop-x
invariant-loop-x g l =
    record {
      answer : (r : Bool) → Tells (Asked g.K.Key.WORDS l.a l.n l.size l.work l.x l.waiting l.count l.last) r
          → Tells (TreeStands (edition g.K.Key.WORDS) l.a l.n l.root l.size) r;
      links : (j : ℕ) → j < l.waiting → (0 < get_or l.work j 0) × (get_or l.work j 0 ≤ l.n);
      room : l.count + l.waiting ≤ l.size;
    }

abbrev pub decreases-loop-x : goal.decreases-loop-x
decreases-loop-x g l = 2 * (l.size - l.count) - l.waiting
