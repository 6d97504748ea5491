-- What a write took is the front of the rest; a write that failed took nothing.
use Rattle.std.proofs.Common.{◌≡◌, ◌++◌, ℕ, List, ap, ◌∙◌, length, take, drop, ◌-◌, arith}
use lib.ListN.{length-drop}
use mathlib.Core.List.{append_assoc}
use Rattle.std.proofs.lemmas.List.{take_all, take-append-drop}
use Rattle.std.proofs.KnownBytes.{Appends-trans, Appends-kept}
use Rattle.pipes.proofs.write_all.Goals as goal
use Rattle.pipes.proofs.write_all.Goals.{in-Ok, in-Err+in_ok-pause-in-Err}

farther : (sent rest : List ℕ) {buf : List ℕ} (put : ℕ) → sent ++ rest ≡ buf
    → (sent ++ take put rest) ++ take (length rest - put) (drop put rest) ≡ buf
farther sent rest put whole =
    ap (λ (l : List ℕ). (sent ++ take put rest) ++ l) (take_all _ _ (simp length-drop (omega arith)))
    ∙ append_assoc sent (take put rest) (drop put rest)
    ∙ ap (λ (l : List ℕ). sent ++ l) (take-append-drop put rest)
    ∙ whole

pub loop-preserved : goal.loop-preserved
loop-preserved g c =
    let (sent, whole, told) = c.loop.invariant in
    elim c.match-write.branch [
      | in-Ok w ↦ rw w.rest-is (sent ++ take w.in-Ok.put c.loop.rest.now, farther sent c.loop.rest.now w.in-Ok.put whole, Appends-trans _ _ _ _ _ told w.in-Ok.ensures.bytes)
      | in-Err+in_ok-pause-in-Err w ↦ rw w.rest-is (sent, whole, Appends-kept _ _ _ _ told w.in-Err.ensures.bytes)
    ]
