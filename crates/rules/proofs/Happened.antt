-- What calls give and leave on a well-formed arena, one and many: the state's words, and the live entries.
use mathlib.Core.List.{List, [], ◌∷◌, ◌++◌}
use mathlib.Core.Option.{Option, none as nil, some}
use mathlib.Core.Path.{◌≡◌, refl, ◌∙◌, ap, subst}
use Prim.Native.Nat.{ℕ, ◌*◌, ◌≤◌}
use native.Mathlib.Omega.{arith}
use lib.ListN.{length, drop, get_or}
use Rattle.rules.specs.Edition.{Edition}
use Rattle.rules.specs.Command.{Command, command, Code, UNKNOWN, DAMAGED, code_number, accepted, Reply, answer_words, answer_size}
use Rattle.rules.specs.Live.{Pair, after}
use Rattle.rules.specs.Tree.{entries}
use Rattle.rules.specs.Perform.{State, new}
use Rattle.rules.specs.Arena.{WellFormed}
use Rattle.rules.specs.Reading.{Reading, read_as}
use Rattle.rules.specs.Calls.{Replied, Ran, make, well_formed, perform_as, one_on, One, how_many, commands_of, refusal, perform_all, all_answers, run_on, Run}
use Rattle.rules.specs.History.{Call, one, run, after_all, done_by, after_call, live}
use Rattle.rules.specs.Demands.{Given, replied, ran, Happened, nothing_yet, one_first, run_first, Left, Holding, OneFollows, RunFollowsBy, RunFollows, Follow, no_call, one_follows, run_follows}
use Rattle.rules.proofs.Order.{Lawful}
use Rattle.rules.proofs.WellFormed.{sound, one_outcome}
use Rattle.rules.proofs.Words.{over_formed}
use Rattle.rules.proofs.Kept.{new_sound}
use Rattle.rules.proofs.Run.{perform_as_slots, perform_all_slots, perform_as_sound, perform_as_live, perform_all_sound, perform_all_entries, perform_all_replies}
use Rattle.rules.proofs.Checked.{checked_formed, make_new, make_accepted, refusal_number, left_by}
use Rattle.rules.proofs.Slots.{holding}
use Rattle.rules.proofs.Replies.{reply_code}

module _ {K : Type 0} (ed : Edition K) where
  -- A refused run on a well-formed arena.
  pub run_refuses : (r : Reading) (cs : List ℕ) {w buffer : List ℕ} {given : Ran} {st : State K} (c : Code) → WellFormed ed w st
      → refusal ed cs (length buffer) ≡ some c → Run ed r cs w buffer given
      → given ≡ record { returned = code_number c; arena = w; answers = buffer }
  run_refuses r cs c a e h = checked_formed ed a h ∙ rw e

  module _ (laws : Lawful ed) where
    module _ (r : Reading) (m : ℕ) (k : K) (v : ℕ) {w : List ℕ} {given : Replied} where
      -- One command on a well-formed arena.
      pub one_gives : {st : State K} → WellFormed ed w st → One ed r m k v w given
          → (given.answer ≡ answer_words ed (perform_as ed r (command m k v) st).answer)
          × Left ed st.slots w (perform_as ed r (command m k v) st).state given.arena
      one_gives {st} a h =
          let c : Command K = command m k v in
          rw (checked_formed ed a h)
          (refl, left_by ed laws a (perform_as ed r c st).state (perform_as_sound ed r laws c st (sound ed a)) (perform_as_slots ed r c st))

      -- On an arena that holds the entries l it leaves one that holds those after it, and what it gives follows from l.
      pub one_step : {n : ℕ} {l : List (Pair K)} → Holding ed n l w → One ed r m k v w given
          → Holding ed n (after_call ed n (one r m k v) l) given.arena × OneFollows ed n l r m k v given
      unfolding after_call
      one_step {n} {l} h g =
          let st : State K = h.state in
          let c : Command K = command m k v in
          let x = one_gives h.formed g in
          let p = perform_as_live ed r laws c st (sound ed h.formed) in (
            holding ed laws n (after ed n (read_as r c) l) x.1.formed (x.1.slots ∙ h.slots) (p.0 ∙ rw (h.slots, h.exactly)),
            ((perform_as ed r c st).answer, p.1 ∙ rw (h.slots, h.exactly), x.0),
          )

      -- On a well-formed arena its code is one of 0 to 7.
      pub one_told : {st : State K} → WellFormed ed w st → One ed r m k v w given → get_or given.answer 0 0 ≤ code_number UNKNOWN
      one_told {st} a g =
          let p = (one_step (holding ed laws st.slots (entries st.tree) a refl refl) g).1 in
          rw (p.2, ap (λ (q : Reply K). q.code) p.1) (reply_code ed st.slots (read_as r (command m k v)) (entries st.tree))

    module _ (r : Reading) (cs : List ℕ) {w buffer : List ℕ} {given : Ran} where
      -- An accepted run, and any run.
      pub run_gives : {st : State K} → WellFormed ed w st → refusal ed cs (length buffer) ≡ nil → Run ed r cs w buffer given
          → (given.returned ≡ accepted)
          × (given.answers
          ≡ all_answers ed (perform_all ed r (commands_of ed cs) st).answers ++ drop (answer_size ed * how_many ed cs) buffer)
          × Left ed st.slots w (perform_all ed r (commands_of ed cs) st).state given.arena
      run_gives {st} a e h =
          let ds : List (Command K) = commands_of ed cs in
          rw (checked_formed ed a h, e) (
            refl,
            refl,
            left_by ed laws a (perform_all ed r ds st).state (perform_all_sound ed r laws ds st (sound ed a)) (perform_all_slots ed r ds st),
          )

      pub run_step : {n : ℕ} {l : List (Pair K)} → Holding ed n l w → Run ed r cs w buffer given
          → Holding ed n (after_call ed n (run r cs buffer) l) given.arena × RunFollows ed n l r cs buffer given
      unfolding after_call after_all
      run_step {n} {l} h g = by (refusal ed cs (length buffer)) refl
        where
          by : (o : Option Code) → refusal ed cs (length buffer) ≡ o
              → Holding ed n (after_all ed n r (done_by ed (refusal ed cs (length buffer)) cs) l) given.arena
              × RunFollowsBy ed (refusal ed cs (length buffer)) n l r cs buffer given
          by (some c) e = let x = run_refuses r cs c h.formed e g in rw (e, x) (h, (refl, refl))
          by nil e =
              let st : State K = h.state in
              let ds : List (Command K) = commands_of ed cs in
              let x = run_gives h.formed e g in
              let p = perform_all_entries ed r laws ds st (sound ed h.formed) in
              let q = perform_all_replies ed r laws ds st (sound ed h.formed) in
              rw e (
                holding ed laws n (after_all ed n r ds l) x.2.formed (x.2.slots ∙ h.slots) (p ∙ rw (h.slots, h.exactly)),
                (x.0, ((perform_all ed r ds st).answers, q ∙ rw (h.slots, h.exactly), x.1)),
              )

      -- On a well-formed arena no run returns DAMAGED.
      pub run_told : {st : State K} → WellFormed ed w st → Run ed r cs w buffer given → given.returned ≡ code_number DAMAGED → ⊥
      run_told {st} a g d = by (refusal ed cs (length buffer)) refl
        where
          by : (o : Option Code) → refusal ed cs (length buffer) ≡ o → ⊥
          by nil q = omega (arith, (run_gives a q g).0)
          by (some c) q =
              omega (arith, ap (λ (x : Ran). x.returned) (run_refuses r cs c a q g), refusal_number ed cs (length buffer) c q)

    -- So for calls in order.
    pub all_steps : {n : ℕ} {l : List (Pair K)} {calls : List (Call K)} {w : List ℕ} {gave : List Given} {w' : List ℕ} → Holding ed n l w
        → Happened ed calls w gave w' → Holding ed n (live ed n calls l) w' × Follow ed n l calls gave
    unfolding live
    all_steps h nothing_yet = (h, no_call)
    all_steps {n = n} {l = l} h (one_first {r = r} {m = m} {k = k} {v = v} g more) =
        let x = one_step r m k v h g in
        let y = all_steps {l = after_call ed n (one r m k v) l} x.0 more in
        (y.0, one_follows x.1 y.1)
    all_steps {n = n} {l = l} h (run_first {r = r} {cs = cs} {buffer = buffer} g more) =
        let x = run_step r cs h g in
        let y = all_steps {l = after_call ed n (run r cs buffer) l} x.0 more in
        (y.0, run_follows x.1 y.1)

    -- A new arena holds nothing.
    pub new_holds : (n : ℕ) (w₀ : List ℕ) → (make ed n w₀).returned ≡ accepted → Holding ed n [] (make ed n w₀).arena
    unfolding new entries
    new_holds n w₀ e =
        let p = make_accepted ed n w₀ e in
        rw (make_new ed n w₀ p.0 p.1 p.2)
        (holding ed laws n [] (over_formed ed laws (new_sound ed n p.0 p.1) w₀ p.2) refl refl)

    -- On an arena that holds entries any calls can happen.
    pub can_happen : {n : ℕ} {l : List (Pair K)} {w : List ℕ} (calls : List (Call K)) → Holding ed n l w
        → (gave : List Given) × (w' : List ℕ) × Happened ed calls w gave w'
    can_happen {w = w} [] h = ([], w, nothing_yet)
    can_happen {n = n} {l = l} {w = w} (one r m k v ∷ calls) h =
        let given : Replied = one_on ed r (command m k v) w h.state in
        let g : One ed r m k v w given = well_formed h.state h.formed refl in
        let x = can_happen {l = after_call ed n (one r m k v) l} calls (one_step r m k v h g).0 in
        (replied given ∷ x.0, x.1, one_first g x.2)
    can_happen {n = n} {l = l} {w = w} (run r cs buffer ∷ calls) h =
        let given : Ran = run_on ed r cs w buffer h.state in
        let g : Run ed r cs w buffer given = well_formed h.state h.formed refl in
        let x = can_happen {l = after_call ed n (run r cs buffer) l} calls (run_step r cs h g).0 in
        (ran given ∷ x.0, x.1, run_first g x.2)

  -- Calls that happened, parted.
  pub happened_parts : (cs ds : List (Call K)) {w : List ℕ} {gave : List Given} {w' : List ℕ} → Happened ed (cs ++ ds) w gave w'
      → (gave₁ gave₂ : List Given) × (w₁ : List ℕ) × (gave ≡ gave₁ ++ gave₂) × Happened ed cs w gave₁ w₁ × Happened ed ds w₁ gave₂ w'
  happened_parts [] ds {w} {gave} h = ([], gave, w, refl, nothing_yet, h)
  happened_parts (c ∷ cs) ds (one_first {given = given} g more) =
      let x = happened_parts cs ds more in
      (replied given ∷ x.0, x.1, x.2, ap (λ (y : List Given). replied given ∷ y) x.3, one_first g x.4, x.5)
  happened_parts (c ∷ cs) ds (run_first {given = given} g more) =
      let x = happened_parts cs ds more in
      (ran given ∷ x.0, x.1, x.2, ap (λ (y : List Given). ran given ∷ y) x.3, run_first g x.4, x.5)

  -- Two histories of the same calls on the same words.
  pub same_happened : {calls : List (Call K)} {w : List ℕ} {gave gave' : List Given} {w' w'' : List ℕ} → Happened ed calls w gave w'
      → Happened ed calls w gave' w'' → (gave ≡ gave') × (w' ≡ w'')
  same_happened nothing_yet nothing_yet = (refl, refl)
  same_happened (one_first {calls = calls} {gave = gave} {w' = w'} g more) (one_first g' more') =
      let e = one_outcome ed g g' in
      let x = same_happened (subst (λ (y : Replied). Happened ed calls y.arena gave w') e more) more' in
      (cc x.0, x.1)
  same_happened (run_first {calls = calls} {gave = gave} {w' = w'} g more) (run_first g' more') =
      let e = one_outcome ed g g' in
      let x = same_happened (subst (λ (y : Ran). Happened ed calls y.arena gave w') e more) more' in
      (cc x.0, x.1)
