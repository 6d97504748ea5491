-- Demand 3 for commands under a reading, one and many: the entries and the replies, that sound states stay sound, and how a run is cut.
use mathlib.Core.List.{List, [], ◌∷◌, ◌++◌, map}
use mathlib.Core.Path.{◌≡◌, refl, ap}
use lib.ListN.{length}
use Rattle.rules.specs.Edition.{Edition}
use Rattle.rules.specs.Command.{Command, said}
use Rattle.rules.specs.Live.{after, reply}
use Rattle.rules.specs.Tree.{entries}
use Rattle.rules.specs.Perform.{State}
use Rattle.rules.specs.Reading.{Reading, read_as, reply_as}
use Rattle.rules.specs.Calls.{Performed, perform_as, perform_all}
use Rattle.rules.specs.History.{after_all, replies_all}
use Rattle.rules.proofs.Order.{Lawful}
use Rattle.rules.proofs.Sound.{Sound}
use Rattle.rules.proofs.Performed.{perform_live}
use Rattle.rules.proofs.Kept.{sound_fit, perform_slots, perform_sound}

module _ {K : Type 0} where
  -- What was performed, and then more from the state that it left.
  abbrev pub followed : Performed K → Performed K → Performed K
  followed p q = record { answers = p.answers ++ q.answers; state = q.state }

module _ {K : Type 0} (ed : Edition K) (r : Reading) where
  pub perform_as_slots : (c : Command K) (st : State K) → (perform_as ed r c st).state.slots ≡ st.slots
  unfolding perform_as
  perform_as_slots c st = perform_slots ed (read_as r c) st

  pub perform_all_slots : (cs : List (Command K)) (st : State K) → (perform_all ed r cs st).state.slots ≡ st.slots
  unfolding perform_all
  perform_all_slots [] st = refl
  perform_all_slots (c ∷ cs) st = rw (perform_all_slots cs (perform_as ed r c st).state) (perform_as_slots c st)

  -- There is an answer for each command.
  pub perform_all_length : (cs : List (Command K)) (st : State K) → length (perform_all ed r cs st).answers ≡ length cs
  unfolding perform_all
  perform_all_length [] st = refl
  perform_all_length (c ∷ cs) st = rw (perform_all_length cs (perform_as ed r c st).state)

  -- Commands after others begin where those ended.
  pub perform_all_append : (cs ds : List (Command K)) (st : State K)
      → perform_all ed r (cs ++ ds) st ≡ followed (perform_all ed r cs st) (perform_all ed r ds (perform_all ed r cs st).state)
  unfolding perform_all
  perform_all_append [] ds st = refl
  perform_all_append (c ∷ cs) ds st = rw (perform_all_append cs ds (perform_as ed r c st).state)

  module _ (laws : Lawful ed) where
    pub perform_as_sound : (c : Command K) (st : State K) → Sound ed st → Sound ed (perform_as ed r c st).state
    unfolding perform_as
    perform_as_sound c st h = perform_sound ed laws (read_as r c) st h

    pub perform_as_live : (c : Command K) (st : State K) → Sound ed st
        → (entries (perform_as ed r c st).state.tree ≡ after ed st.slots (read_as r c) (entries st.tree))
        × (said (perform_as ed r c st).answer ≡ reply_as r (reply ed st.slots (read_as r c) (entries st.tree)))
    unfolding perform_as
    perform_as_live c st h =
        let p = perform_live ed laws (read_as r c) st (sound_fit ed h) in (p.0, ap (reply_as r) p.1)

    pub perform_all_sound : (cs : List (Command K)) (st : State K) → Sound ed st → Sound ed (perform_all ed r cs st).state
    unfolding perform_all
    perform_all_sound [] st h = h
    perform_all_sound (c ∷ cs) st h = perform_all_sound cs (perform_as ed r c st).state (perform_as_sound c st h)

    pub perform_all_entries : (cs : List (Command K)) (st : State K) → Sound ed st
        → entries (perform_all ed r cs st).state.tree ≡ after_all ed st.slots r cs (entries st.tree)
    unfolding perform_all after_all
    perform_all_entries [] st h = refl
    perform_all_entries (c ∷ cs) st h =
        let p = perform_as_live c st h in
        rw (perform_all_entries cs (perform_as ed r c st).state (perform_as_sound c st h), perform_as_slots c st, p.0)

    pub perform_all_replies : (cs : List (Command K)) (st : State K) → Sound ed st
        → map said (perform_all ed r cs st).answers ≡ replies_all ed st.slots r cs (entries st.tree)
    unfolding perform_all replies_all
    perform_all_replies [] st h = refl
    perform_all_replies (c ∷ cs) st h =
        let p = perform_as_live c st h in
        rw (perform_all_replies cs (perform_as ed r c st).state (perform_as_sound c st h), perform_as_slots c st, p.0, p.1)
