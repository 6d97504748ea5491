-- Runs cut in two, and a single command as a run of one: the commands of command words that follow each other, and the words of answers.
use mathlib.Core.List.{List, [], ◌∷◌, ◌++◌, append_assoc, append-nil}
use mathlib.Core.Option.{Option, none as nil, some}
use mathlib.Core.Path.{◌≡◌, refl, sym, ◌∙◌, ap, ap₂}
use Prim.Native.Nat.{ℕ, zero, suc, ◌+◌, ◌*◌, ◌/◌, ◌%◌, ◌≤◌}
use native.Mathlib.Nat.{zero-add, suc-add, mul-zero, mul-one, mul-suc, mul-add-div, mul-add-mod_self_left, div-add-mod, mod_self, div_self}
use native.Mathlib.Omega.{arith}
use lib.ListN.{length, take, drop, length-append, length-drop, get_or-append}
use lib.Seq.{take_at, drop-append-le, get_or_at}
use Rattle.rules.specs.Edition.{Edition}
use Rattle.rules.specs.Command.{Command, command, Code, accepted, Answer, answer_words, command_size, answer_size, command_at}
use Rattle.rules.specs.Perform.{State}
use Rattle.rules.specs.Arena.{over, WellFormed}
use Rattle.rules.specs.Reading.{Reading}
use Rattle.rules.specs.Calls.{Replied, Ran, Performed, well_formed, damaged, perform_as, One, commands, how_many, commands_of, refusal, perform_all, all_answers, Run}
use Rattle.rules.specs.Demands.{command_words}
use Rattle.rules.proofs.Order.{Lawful}
use Rattle.rules.proofs.Words.{over_over}
use Rattle.rules.proofs.Run.{perform_all_slots, perform_all_length, perform_all_append}
use Rattle.rules.proofs.Checked.{refusal_none, not_refused}
use Rattle.rules.proofs.Happened.{one_gives, run_gives}

module _ {K : Type 0} (ed : Edition K) where
  -- There is a command for each.
  pub commands_length : (n : ℕ) (w : List ℕ) → length (commands ed n w) ≡ n
  unfolding commands
  commands_length zero w = refl
  commands_length (suc n) w = rw (commands_length n (drop (command_size ed) w))

  -- How many commands words have that follow each other.
  pub whole : (cs : List ℕ) → length cs % command_size ed ≡ 0 → length cs ≡ command_size ed * how_many ed cs
  whole cs e = omega (arith, div-add-mod (length cs) (command_size ed))

  pub how_many_append : (cs ds : List ℕ) → length cs % command_size ed ≡ 0 → how_many ed (cs ++ ds) ≡ how_many ed cs + how_many ed ds
  how_many_append cs ds e =
      ap (λ (n : ℕ). n / command_size ed) (length-append cs ds ∙ ap (λ (n : ℕ). n + length ds) (whole cs e))
      ∙ mul-add-div (omega arith) (how_many ed cs) (length ds)

  pub not_ragged_append : (cs ds : List ℕ) → length cs % command_size ed ≡ 0
      → length (cs ++ ds) % command_size ed ≡ length ds % command_size ed
  not_ragged_append cs ds e =
      ap (λ (n : ℕ). n % command_size ed) (length-append cs ds ∙ ap (λ (n : ℕ). n + length ds) (whole cs e))
      ∙ mul-add-mod_self_left (command_size ed) (how_many ed cs) (length ds)

  -- The words of answers that follow each other.
  pub all_answers_append : (a b : List (Answer K)) → all_answers ed (a ++ b) ≡ all_answers ed a ++ all_answers ed b
  unfolding all_answers
  all_answers_append [] b = refl
  all_answers_append (x ∷ a) b = rw (all_answers_append a b, append_assoc)

  one_answer : (a : Answer K) → all_answers ed (a ∷ []) ≡ answer_words ed a
  unfolding all_answers
  one_answer a = append-nil (answer_words ed a)

  module _ (laws : Lawful ed) where
    pub length_answers : (a : List (Answer K)) → length (all_answers ed a) ≡ answer_size ed * length a
    unfolding all_answers
    length_answers [] = sym (mul-zero (answer_size ed))
    length_answers (x ∷ a) =
        omega (
          arith,
          length-append (answer_words ed x) (all_answers ed a),
          length-append (ed.spell x.key) (x.value ∷ x.count ∷ []),
          laws.spell_length x.key,
          length_answers a,
          mul-suc (answer_size ed) (length a),
        )

    -- The first command of words does not change with what follows them.
    key_append : (x : ℕ) (w d : List ℕ) → ed.width ≤ length w → ed.key_at (x ∷ (w ++ d)) 1 ≡ ed.key_at (x ∷ w) 1
    key_append x w d h = laws.ahead (x ∷ w) d 1 (omega arith)

    command_append : (w d : List ℕ) → command_size ed ≤ length w → command_at ed (w ++ d) ≡ command_at ed w
    command_append [] d h = absurd (omega arith)
    command_append (x ∷ w) d h =
        ap₂ (λ (k : K) (v : ℕ). command x k v) (key_append x w d (omega arith))
        (get_or-append (x ∷ w) d 0 (1 + ed.width) (omega arith))

    pub commands_append : (n m : ℕ) (w d : List ℕ) → length w ≡ command_size ed * n
        → commands ed (n + m) (w ++ d) ≡ commands ed n w ++ commands ed m d
    unfolding commands
    commands_append zero m [] d e = rw zero-add
    commands_append zero m (x ∷ w) d e = absurd (omega (arith, mul-zero (command_size ed)))
    commands_append (suc n) m w d e =
        let h : command_size ed ≤ length w = omega (arith, mul-suc (command_size ed) n) in
        let f : length (drop (command_size ed) w) ≡ command_size ed * n =
        omega (arith, length-drop (command_size ed) w, mul-suc (command_size ed) n) in
        rw (suc-add n m, command_append w d h, drop-append-le (command_size ed) w d h, commands_append n m (drop (command_size ed) w) d f)

    pub commands_of_append : (cs ds : List ℕ) → length cs % command_size ed ≡ 0
        → commands_of ed (cs ++ ds) ≡ commands_of ed cs ++ commands_of ed ds
    commands_of_append cs ds e =
        ap (λ (n : ℕ). commands ed n (cs ++ ds)) (how_many_append cs ds e)
        ∙ commands_append (how_many ed cs) (how_many ed ds) cs ds (whole cs e)

    -- The answers of an accepted run stand in front of its buffer.
    pub answers_length : (r : Reading) (cs : List ℕ) (st : State K)
        → length (all_answers ed (perform_all ed r (commands_of ed cs) st).answers) ≡ answer_size ed * how_many ed cs
    answers_length r cs st =
        length_answers (perform_all ed r (commands_of ed cs) st).answers
        ∙ ap (λ (n : ℕ). answer_size ed * n) (perform_all_length ed r (commands_of ed cs) st ∙ commands_length (how_many ed cs) cs)

    pub answers_front : (r : Reading) (cs rest : List ℕ) (st : State K)
        → take (answer_size ed * how_many ed cs) (all_answers ed (perform_all ed r (commands_of ed cs) st).answers ++ rest)
        ≡ all_answers ed (perform_all ed r (commands_of ed cs) st).answers
    answers_front r cs rest st =
        take_at (all_answers ed (perform_all ed r (commands_of ed cs) st).answers) rest (answer_size ed * how_many ed cs)
        (answers_length r cs st)

    -- A run keeps the lengths of the arena and of the buffer.
    pub run_lengths : (r : Reading) (cs : List ℕ) {w buffer : List ℕ} {given : Ran} → Run ed r cs w buffer given
        → (length given.arena ≡ length w) × (length given.answers ≡ length buffer)
    run_lengths r cs (damaged no_state e) = rw e (refl, refl)
    run_lengths r cs {w} {buffer} {given} (well_formed st a e) = by (refusal ed cs (length buffer)) refl
      where
        by : (o : Option Code) → refusal ed cs (length buffer) ≡ o
            → (length given.arena ≡ length w) × (length given.answers ≡ length buffer)
        by (some c) q = rw (e, q) (refl, refl)
        by nil q =
            let g : Run ed r cs w buffer given = well_formed st a e in
            let x = run_gives ed laws r cs a q g in
            let p : List (Answer K) = (perform_all ed r (commands_of ed cs) st).answers in (
              x.2.as_long,
              rw x.1
                  (omega (
                    arith,
                    length-append (all_answers ed p) (drop (answer_size ed * how_many ed cs) buffer),
                    answers_length r cs st,
                    length-drop (answer_size ed * how_many ed cs) buffer,
                    (not_refused ed cs (length buffer) q).1,
                  )),
            )

    -- Two accepted runs after each other, and one of all their commands that has room for them.
    pub cut : (r : Reading) (cs ds : List ℕ) {w b b₁ b₂ : List ℕ} {given given₁ given₂ : Ran} {st : State K} → WellFormed ed w st
        → refusal ed cs (length b₁) ≡ nil → refusal ed ds (length b₂) ≡ nil → answer_size ed * how_many ed (cs ++ ds) ≤ length b
        → Run ed r cs w b₁ given₁ → Run ed r ds given₁.arena b₂ given₂ → Run ed r (cs ++ ds) w b given
        → (given.returned ≡ accepted)
        × (given.arena ≡ given₂.arena)
        × (take (answer_size ed * how_many ed (cs ++ ds)) given.answers
        ≡ take (answer_size ed * how_many ed cs) given₁.answers ++ take (answer_size ed * how_many ed ds) given₂.answers)
    cut r cs ds {w} {b} {b₁} {b₂} {given} {given₁} {given₂} {st} a e₁ e₂ room g₁ g₂ g =
        let n₁ = not_refused ed cs (length b₁) e₁ in
        let n₂ = not_refused ed ds (length b₂) e₂ in
        let e : refusal ed (cs ++ ds) (length b) ≡ nil =
        refusal_none ed (cs ++ ds) (length b) (not_ragged_append cs ds n₁.0 ∙ n₂.0) room in
        let x₁ = run_gives ed laws r cs a e₁ g₁ in
        let x₂ = run_gives ed laws r ds x₁.2.formed e₂ g₂ in
        let x = run_gives ed laws r (cs ++ ds) a e g in
        let st₁ : State K = (perform_all ed r (commands_of ed cs) st).state in
        let st₂ : State K = (perform_all ed r (commands_of ed ds) st₁).state in
        let p =
        ap (λ (c : List (Command K)). perform_all ed r c st) (commands_of_append cs ds n₁.0)
        ∙ perform_all_append ed r (commands_of ed cs) (commands_of ed ds) st in (
          x.0,
          x.2.every_word
              ∙ ap (λ (y : Performed K). over ed y.state w) p
              ∙ sym (over_over ed laws st₁ st₂ w (sym (perform_all_slots ed r (commands_of ed ds) st₁)))
              ∙ ap (over ed st₂) (sym x₁.2.every_word)
              ∙ sym x₂.2.every_word,
          ap (take (answer_size ed * how_many ed (cs ++ ds))) x.1
              ∙ answers_front r (cs ++ ds) (drop (answer_size ed * how_many ed (cs ++ ds)) b) st
              ∙ ap (λ (y : Performed K). all_answers ed y.answers) p
              ∙ all_answers_append (perform_all ed r (commands_of ed cs) st).answers (perform_all ed r (commands_of ed ds) st₁).answers
              ∙ rw (
                x₁.1,
                x₂.1,
                answers_front r cs (drop (answer_size ed * how_many ed cs) b₁) st,
                answers_front r ds (drop (answer_size ed * how_many ed ds) b₂) st₁,
              ),
        )

    -- The words of one command are one command, and it is that one.
    words_length : (m : ℕ) (k : K) (v : ℕ) → length (command_words ed m k v) ≡ command_size ed
    words_length m k v = omega (arith, length-append (ed.spell k) (v ∷ []), laws.spell_length k)

    pub one_command : (m : ℕ) (k : K) (v : ℕ) → how_many ed (command_words ed m k v) ≡ 1
    one_command m k v = rw (words_length m k v) (div_self (omega arith))

    command_read : (m : ℕ) (k : K) (v : ℕ) → command_at ed (command_words ed m k v) ≡ command m k v
    command_read m k v =
        ap₂ (λ (j : K) (u : ℕ). command m j u) (laws.reread (m ∷ []) k (v ∷ []))
        (get_or_at (m ∷ ed.spell k) v [] 0 (1 + ed.width) (omega (arith, laws.spell_length k)))

    one_of : (m : ℕ) (k : K) (v : ℕ) → commands_of ed (command_words ed m k v) ≡ command m k v ∷ []
    unfolding commands
    one_of m k v = rw one_command (ap (λ (c : Command K). c ∷ []) (command_read m k v))

    pub one_not_refused : (m : ℕ) (k : K) (v : ℕ) (room : ℕ) → answer_size ed ≤ room → refusal ed (command_words ed m k v) room ≡ nil
    one_not_refused m k v room h =
        refusal_none ed (command_words ed m k v) room (rw (words_length m k v) (mod_self (command_size ed)))
        (rw (one_command m k v, mul-one (answer_size ed)) h)

    -- A single command, and a run of it alone, on a well-formed arena.
    pub alone : (r : Reading) (m : ℕ) (k : K) (v : ℕ) {w b : List ℕ} {given : Replied} {given' : Ran} {st : State K} → WellFormed ed w st
        → answer_size ed ≤ length b → One ed r m k v w given → Run ed r (command_words ed m k v) w b given'
        → (given'.returned ≡ accepted)
        × (given'.arena ≡ given.arena)
        × (given'.answers ≡ given.answer ++ drop (answer_size ed) b)
    unfolding perform_all
    alone r m k v {w} {b} {given} {given'} {st} a h g g' =
        let x = one_gives ed laws r m k v a g in
        let y = run_gives ed laws r (command_words ed m k v) a (one_not_refused m k v (length b) h) g' in (
          y.0,
          y.2.every_word
              ∙ ap (λ (c : List (Command K)). over ed (perform_all ed r c st).state w) (one_of m k v)
              ∙ sym x.1.every_word,
          y.1
              ∙ rw (one_of m k v, one_command m k v, mul-one (answer_size ed), x.0, one_answer (perform_as ed r (command m k v) st).answer),
        )
