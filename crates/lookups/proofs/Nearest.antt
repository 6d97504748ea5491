-- What next, prev, min and max answer once their walk has ended, and what they leave of the tree.
use mathlib.Core.List.{List}
use mathlib.Core.Option.{Option as Known}
use mathlib.Core.Path.{◌≡◌, refl, sym, ap, ◌∙◌, subst}
use Prim.Native.Nat.{ℕ, suc, ◌+◌, ◌≤◌}
use native.Mathlib.Omega.{arith}
use Rattle.std.specs.Prelude.{Option, Some, None}
use Rattle.rules.specs.Order.{Side, left, right, by_number}
use Rattle.rules.specs.Edition.{edition, most_slots, Width}
use Rattle.rules.specs.Tree.{Entry, Tree, size}
use Rattle.rules.specs.Splay.{splay}
use Rattle.rules.specs.Command as rules
use Rattle.rules.specs.Perform.{State, neighbour, entry_or, perform}
use Rattle.rules.specs.Fit.{Moving}
use Rattle.rules.proofs.Splay.{splay_weighs, splay_count}
use Rattle.rules.proofs.Nearest.{neighbour_nobody}
use Rattle.node.specs.Stands.{Inside}
use Rattle.node.proofs.Memory.{no_link}
use Rattle.node.proofs.Words.{slots}
use Rattle.splay.specs.Moves.{Became}
use Rattle.heads.specs.declared.answer.Answer.{Answer}
use Rattle.heads.specs.declared.answer.Code.TheVariants as code
use Rattle.heads.specs.declared.head.Head.{Head}
use Rattle.heads.specs.Worded.{Words, Says}
use Rattle.heads.specs.Headed.{Headed, Obeyed}
use Rattle.heads.proofs.Heads.{obeyed_as, rooted_at, stays, obeys, root_wrote}
use Rattle.lookups.specs.Sought.{LeadsOr, nowhere, leads_to, SoughtIn}
use Rattle.lookups.proofs.Present.{worded}

-- A link that was found leads to words that are there.
pub found_in : {wd : ℕ} {w : List ℕ} {o : Option ℕ} {x : ℕ} {known : Known (Entry ℕ)} → LeadsOr wd w o known → o ≡ Some x → Inside wd w x
found_in nowhere e = absurd cc
found_in {wd} {w} {x = x} (leads_to {x = y} h) e = let q : y ≡ x = cc in rw q at h.inside

module _ {K : Type 0} {number : K → ℕ} {r : Answer K} where
  -- The answer with the entry that a link leads to, and the one where there is none.
  pub found_says : {wd : ℕ} {w : List ℕ} {o : Option ℕ} {x : ℕ} {known : Known (Entry ℕ)} {n : ℕ} → LeadsOr wd w o known → o ≡ Some x
      → ((s : ℕ) → x ≡ suc s → Words number r code.Found (slots wd w s).key (slots wd w s).value n) → Says number r (entry_or (edition wd) known n)
  found_says nowhere e f = absurd cc
  found_says {x = x} (leads_to {x = y} {e = u} h) e f = let q : x ≡ y = cc in rw (h.key, h.value) at (worded (f u.slot (q ∙ h.at)))

  pub absent_says : {wd : ℕ} {w : List ℕ} {o : Option ℕ} {known : Known (Entry ℕ)} {n : ℕ} → LeadsOr wd w o known → o ≡ None
      → Words number r code.Absent 0 0 n → Says number r (entry_or (edition wd) known n)
  absent_says nowhere e p = worded p
  absent_says (leads_to h) e p = absurd cc

  -- Next and prev where the root link is 0.
  pub nobody : {wd : ℕ} {w : List ℕ} {h : Head} {st : State ℕ} (d : Side) (key : ℕ) → Headed wd w h st → h.root ≡ 0
      → Words number r code.Absent 0 0 0 → Obeyed number wd (neighbour (edition wd) d key st) st w w (record { answer = r; head = h })
  nobody {wd} {st = st} d key f z p =
      obeyed_as (neighbour_nobody (edition wd) d key st (no_link st.tree (sym f.root ∙ z))) (stays f (worded p))

-- The command that asks for the neighbour on a side.
record Asker (wd : ℕ) (d : Side) (key : ℕ) (st : State ℕ) : Type 0 where
  command : rules.Command ℕ
  moving : Moving command
  does : perform (edition wd) command st ≡ neighbour (edition wd) d key st

asker : (wd : ℕ) (d : Side) (key : ℕ) (st : State ℕ) → Asker wd d key st
unfolding perform
asker wd left key st = record { command = rules.next key; moving = tt; does = refl }
asker wd right key st = record { command = rules.prev key; moving = tt; does = refl }

-- Three comparisons for each slot at most, so that the count fits a word.
pub sought_few : {wd key : ℕ} {d : Side} {w : List ℕ} {best : Option ℕ} {n m : ℕ} (t : Tree ℕ) → size t ≤ most_slots
    → n ≡ (splay by_number key t).count → SoughtIn wd d key w (splay by_number key t).tree best m → n + m ≤ 12285
sought_few {key = key} t b e f = omega (arith, e, f.few, splay_weighs by_number key (λ e. 1) t, splay_count by_number key t)

-- The walk of next and prev in the splayed tree.
pub sought_obeyed : {K : Type 0} {number : K → ℕ} {r : Answer K} {wd key : ℕ} {st : State ℕ} {h : Head} {w w' : List ℕ} {x n m : ℕ}
    {best : Option ℕ} {d : Side} → Width wd → Headed wd w h st
    → Became wd w w' x st.tree (splay by_number key st.tree).tree × (n ≡ (splay by_number key st.tree).count)
    → (u : SoughtIn wd d key w' (splay by_number key st.tree).tree best m) → Says number r (entry_or (edition wd) u.entry (n + m))
    → Obeyed number wd (neighbour (edition wd) d key st) st w w' (record { answer = r; head = rooted_at h x })
sought_obeyed {number = number} {r = r} {wd = wd} {key = key} {st = st} {m = m} {d = d} v f (b, en) u p =
    let c = asker wd d key st in
    obeys f v c.command c.moving c.does
    (subst (Says number r)
    (sym (u.same (splay by_number key st.tree).count ∙ ap (λ (i : ℕ). entry_or (edition wd) u.entry (i + m)) (sym en))) p)
    (omega (arith, f.live, f.fit.low)) (root_wrote f _ b)
