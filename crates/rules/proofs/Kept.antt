-- A new arena's state is sound, and every command keeps a sound state sound and N as it was: each slot stays in the tree or on the chain,
-- or moves from one to the other.
use mathlib.Core.List.{List, [], ◌∷◌}
use mathlib.Core.Logic.{◌⊎◌, inl, inr}
use mathlib.Core.Path.{◌≡◌, refl, ◌∙◌}
use Prim.Native.Nat.{ℕ, zero, suc, ◌+◌, ◌≤◌, ◌<◌}
use native.Mathlib.Omega.{arith}
use lib.ListN.{length}
use Rattle.rules.specs.Order.{Side, left, right, equal, toward, of_side}
use Rattle.rules.specs.Edition.{Edition, most_slots}
use Rattle.rules.specs.Command.{Command, get, next, prev, remove, write, insert, min, max, take_first, take_last, clear, len, unknown}
use Rattle.rules.specs.Live.{Ascending}
use Rattle.rules.specs.Tree.{Entry, Tree, none, node, hit, entries, weigh, size, times}
use Rattle.rules.specs.Splay.{splay}
use Rattle.rules.specs.Perform.{State, Outcome, counting, new, Met, nobody, met, Room, full, in_slot, room, with_tree, hung_on, bring, if_present, found, replaced, removed, inserted, raise, taken, perform}
use Rattle.rules.specs.Arena.{listed}
use Rattle.rules.specs.Fit.{Fit, Moving}
use Rattle.rules.proofs.Order.{Lawful}
use Rattle.rules.proofs.Hit.{hit_other, hit_cases}
use Rattle.rules.proofs.Splay.{splay_weighs}
use Rattle.rules.proofs.Sound.{Sound}
use Rattle.rules.proofs.WellFormed.{sound_once}
use Rattle.rules.proofs.After.{after_ascending}
use Rattle.rules.proofs.Brought.{Roomed, no_slot, a_slot, rooms, Root, Brought, no_root, a_root, brings, hung}
use Rattle.rules.proofs.Performed.{perform_live}

-- The slots counted from a first on: as many as asked, each once.
pub counting_length : (n from : ℕ) → length (counting n from) ≡ n
unfolding counting
counting_length zero from = refl
counting_length (suc n) from = rw (counting_length n (suc from))

counting_before : (n from s : ℕ) → s < from → listed s (counting n from) ≡ 0
unfolding counting
counting_before zero from s h = refl
counting_before (suc n) from s h = omega (arith, hit_other s from (omega arith), counting_before n (suc from) s (omega arith))

pub counting_past : (n from s : ℕ) → from + n ≤ s → listed s (counting n from) ≡ 0
unfolding counting
counting_past zero from s h = refl
counting_past (suc n) from s h = omega (arith, hit_other s from (omega arith), counting_past n (suc from) s (omega arith))

pub counting_once : (n from s : ℕ) → from ≤ s → s < from + n → listed s (counting n from) ≡ 1
unfolding counting
counting_once zero from s h p = absurd (omega arith)
counting_once (suc n) from s h p = by (hit_cases s from) (λ q. counting_once n (suc from) s q (omega arith))
  where
    by : ((s ≡ from) × (hit s from ≡ 1)) ⊎ ((s ≡ from → ⊥) × (hit s from ≡ 0))
        → (suc from ≤ s → listed s (counting n (suc from)) ≡ 1)
        → hit s from + listed s (counting n (suc from)) ≡ 1
    by (inl q) rec = omega (arith, counting_before n (suc from) s (omega arith))
    by (inr q) rec = let z : s ≡ from → ⊥ = q.0 in omega (arith, rec (omega arith))

-- The sum of a number for each slot of a chain.
abbrev sum : (ℕ → ℕ) → List ℕ → ℕ
sum g [] = 0
sum g (s ∷ more) = g s + sum g more

sum_listed : (s : ℕ) (l : List ℕ) → sum (hit s) l ≡ listed s l
sum_listed s [] = refl
sum_listed s (x ∷ l) = rw (sum_listed s l)

sum_length : (l : List ℕ) → sum (λ s. 1) l ≡ length l
sum_length [] = refl
sum_length (x ∷ l) = omega (arith, sum_length l)

module _ {K : Type 0} where
  -- The same over a state, in its tree and on its chain.
  abbrev total : (ℕ → ℕ) → State K → ℕ
  total g st = weigh (λ e. g e.slot) st.tree + sum g st.free

  -- Slots at most move.
  abbrev Moves : State K → State K → Type 0
  Moves st to = (g : ℕ → ℕ) → total g to ≡ total g st

  -- What that comes to: each slot stands as often as before, in the tree and on the chain together.
  pub record Moved (st to : State K) : Type 0 where
    pub each : (s : ℕ) → times s to.tree + listed s to.free ≡ times s st.tree + listed s st.free
    pub number : size to.tree + length to.free ≡ size st.tree + length st.free

module _ {K : Type 0} (ed : Edition K) where
  pub new_sound : (n : ℕ) → 1 ≤ n → n ≤ most_slots → Sound ed (new n)
  unfolding new entries
  new_sound n h p =
      record {
        some_slot = h;
        in_range = p;
        cover = λ s q. omega (arith, counting_once n 0 s (omega arith) (omega arith));
        outside = λ s q. omega (arith, counting_past n 0 s (omega arith));
        number = omega (arith, counting_length n 0);
        ascending = tt;
      }

  -- Every command leaves N as it is.
  present_slots : (st : State K) (present : Entry K → Tree K → Tree K → ℕ → State K → Outcome K)
      → ((e : Entry K) (l r : Tree K) (n : ℕ) → (present e l r n st).state.slots ≡ st.slots)
      → (m : Met K) → (if_present ed present m st).state.slots ≡ st.slots
  unfolding if_present
  present_slots st present f nobody = refl
  present_slots st present f (met equal e l r n) = f e l r n
  present_slots st present f (met (toward s) e l r n) = refl

  stored_slots : (k : K) (v : ℕ) (st : State K) (m : Met K) (x : Room) → (inserted ed k v m x st).state.slots ≡ st.slots
  unfolding inserted
  stored_slots k v st nobody full = refl
  stored_slots k v st nobody (in_slot x more) = refl
  stored_slots k v st (met equal e l r n) x = refl
  stored_slots k v st (met (toward s) e l r n) full = refl
  stored_slots k v st (met (toward s) e l r n) (in_slot x more) = refl

  raised_slots : (d : Side) (near : Tree K) (e : Entry K) (far : Tree K) (st : State K) → (raise ed d near e far st).state.slots ≡ st.slots
  unfolding raise
  raised_slots d none e far st = refl
  raised_slots left (node c l r) e far st = raised_slots left l c (node e r far) st
  raised_slots right (node c l r) e far st = raised_slots right r c (node e far l) st

  taken_slots : (d : Side) (t : Tree K) (st : State K) → (taken ed d t st).state.slots ≡ st.slots
  taken_slots d none st = refl
  taken_slots d (node e l r) st = raised_slots d (of_side d l r) e (of_side d r l) st

  pub perform_slots : (c : Command K) (st : State K) → (perform ed c st).state.slots ≡ st.slots
  unfolding perform new
  perform_slots (get k) st = present_slots st (found ed) (λ e l r n. refl) (bring ed k st.tree)
  perform_slots (write k v) st = present_slots st (replaced ed v) (λ e l r n. refl) (bring ed k st.tree)
  perform_slots (next k) st = refl
  perform_slots (prev k) st = refl
  perform_slots (insert k v) st = stored_slots k v st (bring ed k st.tree) (room st)
  perform_slots (remove k) st = present_slots st (removed ed k) (λ e l r n. refl) (bring ed k st.tree)
  perform_slots min st = refl
  perform_slots max st = refl
  perform_slots take_first st = taken_slots left st.tree st
  perform_slots take_last st = taken_slots right st.tree st
  perform_slots clear st = refl
  perform_slots len st = refl
  perform_slots unknown st = refl

  -- Every command but clear moves slots, at most.
  root_moves : (k : K) (st : State K) (e : Entry K) (l r : Tree K) → Root ed k st.tree e l r → Moves st (with_tree (node e l r) st)
  root_moves k st e l r h g = omega (arith, h.same_weight (λ e. g e.slot))

  present_moves : (k : K) (st : State K) (present : Entry K → Tree K → Tree K → ℕ → State K → Outcome K) {m : Met K}
      → Brought ed k st.tree m
      → ((e : Entry K) (l r : Tree K) (n : ℕ) → Root ed k st.tree e l r → Moves st (present e l r n st).state)
      → Moves st (if_present ed present m st).state
  unfolding if_present
  present_moves k st present (no_root q) f g = refl
  present_moves k st present (a_root equal e l r n p h) f g = f e l r n h g
  present_moves k st present (a_root (toward s) e l r n p h) f g = root_moves k st e l r h g

  stored_moves : (k : K) (v : ℕ) (st : State K) {m : Met K} {x : Room} → Brought ed k st.tree m → Roomed st x
      → Moves st (inserted ed k v m x st).state
  unfolding inserted
  stored_moves k v st (no_root q) (no_slot f) g = refl
  stored_moves k v st (no_root q) (a_slot x more f u) g = rw (q, u) (omega arith)
  stored_moves k v st (a_root equal e l r n p h) x g = root_moves k st e l r h g
  stored_moves k v st (a_root (toward s) e l r n p h) (no_slot f) g = root_moves k st e l r h g
  stored_moves k v st (a_root (toward left) e l r n p h) (a_slot x more f u) g = rw u (omega (arith, h.same_weight (λ e. g e.slot)))
  stored_moves k v st (a_root (toward right) e l r n p h) (a_slot x more f u) g = rw u (omega (arith, h.same_weight (λ e. g e.slot)))

  raised_total : (d : Side) (near : Tree K) (e : Entry K) (far : Tree K) (st : State K) (g : ℕ → ℕ)
      → total g (raise ed d near e far st).state ≡ weigh (λ e. g e.slot) (node e near far) + sum g st.free
  unfolding raise
  raised_total d none e far st g = omega arith
  raised_total left (node c l r) e far st g = omega (arith, raised_total left l c (node e r far) st g)
  raised_total right (node c l r) e far st g = omega (arith, raised_total right r c (node e far l) st g)

  taken_moves : (d : Side) (st : State K) (t : Tree K) → st.tree ≡ t → Moves st (taken ed d t st).state
  taken_moves d st none q g = refl
  taken_moves left st (node e l r) q g = raised_total left l e r st g ∙ rw q
  taken_moves right st (node e l r) q g = raised_total right r e l st g ∙ rw q (omega arith)

  -- Where slots at most move and N stays, a state stays sound if the keys still ascend.
  moved_sound : (st to : State K) → Sound ed st → Moves st to → to.slots ≡ st.slots → Ascending ed (entries to.tree)
      → Sound ed to
  moved_sound st to h m q a =
      record {
        some_slot = omega (arith, h.some_slot);
        in_range = omega (arith, h.in_range);
        cover = λ s p. omega (arith, m (hit s), sum_listed s st.free, sum_listed s to.free, h.cover s (omega arith));
        outside = λ s p. omega (arith, m (hit s), sum_listed s st.free, sum_listed s to.free, h.outside s (omega arith));
        number = omega (arith, m (λ s. 1), sum_length st.free, sum_length to.free, h.number);
        ascending = a;
      }

  -- A sound state fits.
  pub sound_fit : {st : State K} → Sound ed st → Fit ed st
  sound_fit {st} h =
      record { in_range = h.in_range; low = omega (arith, h.number); room = omega (arith, h.number); once = sound_once ed h; ascending = h.ascending }

  cleared_sound : (st : State K) → Sound ed st → Sound ed (perform ed clear st).state
  unfolding perform
  cleared_sound st h = new_sound st.slots h.some_slot h.in_range

  module _ (laws : Lawful ed) where
    removed_moves : (k : K) (st : State K) (e : Entry K) (l r : Tree K) (n : ℕ) → Root ed k st.tree e l r
        → Moves st (removed ed k e l r n st).state
    removed_moves k st e l r n h g = by (λ e. g e.slot) (sum g st.free)
      where
        by : (f : Entry K → ℕ) (m : ℕ) → weigh f (hung_on (splay ed.order k l).tree r) + (f e + m) ≡ weigh f st.tree + m
        by f m = omega (arith, h.same_weight f, (hung ed laws k l r h.lefts h.ascends).1 f)

    moves : (c : Command K) → Moving c → (st : State K) → Fit ed st → Moves st (perform ed c st).state
    unfolding perform
    moves (get k) u st h = present_moves k st (found ed) (brings ed laws k st.tree h.ascending) (λ e l r n. root_moves k st e l r)
    moves (write k v) u st h = present_moves k st (replaced ed v) (brings ed laws k st.tree h.ascending) (λ e l r n. root_moves k st e l r)
    moves (next k) u st h = λ g. rw (splay_weighs ed.order k (λ e. g e.slot) st.tree)
    moves (prev k) u st h = λ g. rw (splay_weighs ed.order k (λ e. g e.slot) st.tree)
    moves (insert k v) u st h = stored_moves k v st (brings ed laws k st.tree h.ascending) (rooms st h.low h.room)
    moves (remove k) u st h = present_moves k st (removed ed k) (brings ed laws k st.tree h.ascending) (removed_moves k st)
    moves min u st h = λ g. refl
    moves max u st h = λ g. refl
    moves take_first u st h = taken_moves left st st.tree refl
    moves take_last u st h = taken_moves right st st.tree refl
    moves clear u st h = absurd u
    moves len u st h = λ g. refl
    moves unknown u st h = λ g. refl

    ascends : (c : Command K) (st : State K) → Fit ed st → Ascending ed (entries (perform ed c st).state.tree)
    ascends c st h = rw (perform_live ed laws c st h).0 (after_ascending ed laws st.slots c (entries st.tree) h.ascending)

    -- Each slot stands as often as before, and there are as many.
    pub perform_moved : (c : Command K) → Moving c → (st : State K) → Fit ed st → Moved st (perform ed c st).state
    perform_moved c u st h =
        let to = (perform ed c st).state in
        let m = moves c u st h in
        record {
          each = λ s. omega (arith, m (hit s), sum_listed s st.free, sum_listed s to.free);
          number = omega (arith, m (λ s. 1), sum_length st.free, sum_length to.free);
        }

    -- A state that fits goes on fitting, if there is room for its entries.
    pub perform_fit : (c : Command K) → Moving c → (st : State K) → Fit ed st → size (perform ed c st).state.tree ≤ st.slots
        → Fit ed (perform ed c st).state
    perform_fit c u st h b =
        let q = perform_slots c st in
        let m = perform_moved c u st h in
        record {
          in_range = omega (arith, h.in_range);
          low = omega arith;
          room = omega (arith, h.room, m.number);
          once = λ s. omega (arith, m.each s, h.once s);
          ascending = ascends c st h;
        }

    kept : (c : Command K) → Moving c → (st : State K) → Sound ed st → Sound ed (perform ed c st).state
    kept c u st h =
        moved_sound st (perform ed c st).state h (moves c u st (sound_fit h)) (perform_slots c st) (ascends c st (sound_fit h))

    pub perform_sound : (c : Command K) (st : State K) → Sound ed st → Sound ed (perform ed c st).state
    perform_sound (get k) st h = kept (get k) tt st h
    perform_sound (write k v) st h = kept (write k v) tt st h
    perform_sound (next k) st h = kept (next k) tt st h
    perform_sound (prev k) st h = kept (prev k) tt st h
    perform_sound (insert k v) st h = kept (insert k v) tt st h
    perform_sound (remove k) st h = kept (remove k) tt st h
    perform_sound min st h = kept min tt st h
    perform_sound max st h = kept max tt st h
    perform_sound take_first st h = kept take_first tt st h
    perform_sound take_last st h = kept take_last tt st h
    perform_sound clear st h = cleared_sound st h
    perform_sound len st h = kept len tt st h
    perform_sound unknown st h = kept unknown tt st h
