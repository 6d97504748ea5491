-- A run in the middle, for either reading: what is done, what is left of the list, and the answers so far.
use mathlib.Core.List.{List, [], ◌∷◌, ◌++◌, append_assoc, append-nil}
use mathlib.Core.Path.{◌≡◌, refl, sym, ap, ◌∙◌, subst}
use Prim.Native.Nat.{ℕ, suc, ◌+◌, ◌-◌, ◌*◌, ◌/◌, ◌%◌, ◌≤◌, ◌<◌}
use native.Mathlib.Nat.{mul-zero}
use native.Mathlib.Omega.{arith}
use lib.ListN.{length, drop, take, length-append, length-drop}
use lib.Seq.{drop-drop, drop_at, drop-length, take_at, take_all}
use borrow.Author.Tests.{eq-eqb, ne_eqb, le-leb, lt-leb}
use borrow.Rule.Slice.PartMut.{put_mid, Post-is}
use Rattle.rules.specs.Edition.{edition, Width, Small}
use Rattle.rules.specs.Command.{Command, Answer, answer_words, command_at}
use Rattle.rules.specs.Perform.{State, Outcome}
use Rattle.rules.specs.Arena.{WellFormed, over}
use Rattle.rules.specs.Reading.{Reading}
use Rattle.rules.specs.Calls.{Ran, Performed, perform_as, perform_all, commands, commands_of, refusal, all_answers, run_on}
use Rattle.rules.proofs.Order.{edition_lawful}
use Rattle.rules.proofs.WellFormed.{the_state, the_words}
use Rattle.rules.proofs.Words.{over_over}
use Rattle.rules.proofs.Run.{perform_as_slots, perform_all_append, perform_all_length}
use Rattle.calls.specs.Told.{Stepped, RanAll}
use Rattle.calls.proofs.Counting.{one_more, next_count, next_whole, none_counted, room_for, answers_next}

-- A part of a list from a place to its end, and the list once the part is back.
pub to_end : (at : ℕ) (xs : List ℕ) → take (length xs - at) (drop at xs) ≡ drop at xs
to_end at xs = take_all (length xs - at) (drop at xs) (omega (arith, length-drop at xs))

pub back : (at : ℕ) (xs ys : List ℕ) → at ≤ length xs → put_mid at (length xs - at) xs ys ≡ take at xs ++ ys
back at xs ys h =
    ap (λ (q : List ℕ). take at xs ++ (ys ++ q)) (Post-is at (length xs) xs h ∙ drop-length xs) ∙ ap (λ (q : List ℕ). take at xs ++ q) (append-nil ys)

-- Answers after answers.
pub answers_append : (wd : ℕ) (a b : List (Answer ℕ)) → all_answers (edition wd) (a ++ b) ≡ all_answers (edition wd) a ++ all_answers (edition wd) b
unfolding all_answers
answers_append wd [] b = refl
answers_append wd (x ∷ a) b =
    ap (λ (q : List ℕ). answer_words (edition wd) x ++ q) (answers_append wd a b)
    ∙ sym (append_assoc (answer_words (edition wd) x) (all_answers (edition wd) a) (all_answers (edition wd) b))

module _ {wd : ℕ} (h : Width wd) where
  answer_length : (x : Answer ℕ) → length (answer_words (edition wd) x) ≡ 3 + wd
  answer_length x =
      omega (arith, length-append ((edition wd).spell x.key) (x.value ∷ x.count ∷ []), (edition_lawful h).spell_length x.key)

  answers_length : (a : List (Answer ℕ)) → length (all_answers (edition wd) a) ≡ (3 + wd) * length a
  unfolding all_answers
  answers_length [] = omega arith
  answers_length (x ∷ a) =
      omega
      (arith, length-append (answer_words (edition wd) x) (all_answers (edition wd) a), answer_length x, answers_length a, answers_next h (length a))

  -- A list's first command, and the rest.
  first_then : (list : List ℕ) → 2 + wd ≤ length list
      → commands_of (edition wd) list ≡ command_at (edition wd) list ∷ commands_of (edition wd) (drop (2 + wd) list)
  unfolding commands
  first_then list l =
      ap (λ (k : ℕ). commands (edition wd) k list) (next_count h (length list) (length (drop (2 + wd) list)) (omega (arith, length-drop (2 + wd) list)))

  none_left : (list : List ℕ) → length list ≡ 0 → commands_of (edition wd) list ≡ []
  unfolding commands
  none_left list e = ap (λ (k : ℕ). commands (edition wd) k list) (none_counted h (length list) e)

module _ (wd : ℕ) (r : Reading) (list : List ℕ) (w₀ out₀ : List ℕ) where
  -- So many commands are done: `done` are they, `rest` is what is left of the list, and the answers stand before the place `at`.
  pub record Running (w rest out : List ℕ) (at : ℕ) : Type 0 where
    pub width : Width wd
    pub start : State ℕ
    pub formed₀ : WellFormed (edition wd) w₀ start
    pub done : List (Command ℕ)
    pub split : commands_of (edition wd) list ≡ done ++ commands_of (edition wd) rest
    pub whole : length rest % (2 + wd) ≡ 0
    pub place : at ≡ (3 + wd) * length done
    pub count : length list / (2 + wd) ≡ length done + length rest / (2 + wd)
    pub formed : WellFormed (edition wd) w (perform_all (edition wd) r done start).state
    pub words : w ≡ over (edition wd) (perform_all (edition wd) r done start).state w₀
    pub told : out ≡ all_answers (edition wd) (perform_all (edition wd) r done start).answers ++ drop at out₀
    pub room : (3 + wd) * (length list / (2 + wd)) ≤ length out₀

  pub begin : Width wd → (st : State ℕ) → WellFormed (edition wd) w₀ st → Small w₀ → length list % (2 + wd) ≡ 0
      → (3 + wd) * (length list / (2 + wd)) ≤ length out₀ → Running w₀ list out₀ 0
  unfolding perform_all all_answers
  begin h st f small e m =
      record {
        width = h;
        start = st;
        formed₀ = f;
        done = [];
        split = refl;
        whole = e;
        place = sym (mul-zero (3 + wd));
        count = omega arith;
        formed = f;
        words = the_words (edition wd) (edition_lawful h) w₀ small f;
        told = refl;
        room = m;
      }

  module _ {w rest out : List ℕ} {at : ℕ} (i : Running w rest out at) where
    answers_so_far : length (all_answers (edition wd) (perform_all (edition wd) r i.done i.start).answers) ≡ at
    answers_so_far =
        answers_length i.width _ ∙ ap (λ (k : ℕ). (3 + wd) * k) (perform_all_length (edition wd) r i.done i.start) ∙ sym i.place

    at_inside : at ≤ length out₀
    at_inside = omega (arith, i.place, room_for i.width _ _ _ (length out₀) i.count i.room)

    pub out_length : length out ≡ length out₀
    out_length =
        ap length i.told
        ∙ (let q = length-append (all_answers (edition wd) (perform_all (edition wd) r i.done i.start).answers) (drop at out₀) in
        omega (arith, q, answers_so_far, length-drop at out₀, at_inside))

    -- There is a whole command left, and room for its answer.
    pub some_left : 0 < length rest → (2 + wd ≤ length rest) × (at + (3 + wd) ≤ length out)
    some_left p =
        let b = one_more i.width (length rest) i.whole p in
        let n = next_count i.width (length rest) (length (drop (2 + wd) rest)) (omega (arith, length-drop (2 + wd) rest)) in
        let q = room_for i.width (length list / (2 + wd)) (suc (length i.done)) (length (drop (2 + wd) rest) / (2 + wd)) (length out₀)
        (omega (arith, i.count)) i.room in
        (b, omega (arith, q, answers_next i.width (length i.done), i.place, out_length))

    -- A command more: its answer was written into the words from the place on.
    pub more : (w' out' : List ℕ) → 0 < length rest
        → Stepped wd r (command_at (edition wd) rest) (perform_all (edition wd) r i.done i.start).state w w' (drop at out) out'
        → Running w' (drop (2 + wd) rest) (take at out ++ out') (at + (3 + wd))
    unfolding perform_all all_answers
    more w' out' p s =
        let c = command_at (edition wd) rest in
        let st = (perform_all (edition wd) r i.done i.start).state in
        let a = (perform_all (edition wd) r i.done i.start).answers in
        let o : Outcome ℕ = perform_as (edition wd) r c st in
        let e = perform_all_append (edition wd) r i.done (c ∷ []) i.start in
        let es : (perform_all (edition wd) r (i.done ++ (c ∷ [])) i.start).state ≡ o.state = ap (λ (q : Performed ℕ). q.state) e in
        let ea : (perform_all (edition wd) r (i.done ++ (c ∷ [])) i.start).answers ≡ a ++ (o.answer ∷ []) = ap (λ (q : Performed ℕ). q.answers) e in
        let b = (some_left p).0 in
        let l : length (drop (2 + wd) rest) + (2 + wd) ≡ length rest = omega (arith, length-drop (2 + wd) rest) in
        let kept : take at out ≡ all_answers (edition wd) a = ap (take at) i.told ∙ take_at (all_answers (edition wd) a) (drop at out₀) at answers_so_far in
        let behind : drop at out ≡ drop at out₀ = ap (drop at) i.told ∙ drop_at (all_answers (edition wd) a) (drop at out₀) at answers_so_far in
        let new : out' ≡ answer_words (edition wd) o.answer ++ drop (at + (3 + wd)) out₀
        = s.told ∙ ap (λ (q : List ℕ). answer_words (edition wd) o.answer ++ q) (ap (drop (3 + wd)) behind ∙ drop-drop (3 + wd) at out₀) in
        record {
          width = i.width;
          start = i.start;
          formed₀ = i.formed₀;
          done = i.done ++ (c ∷ []);
          split =
              i.split
              ∙ ap (λ (q : List (Command ℕ)). i.done ++ q) (first_then i.width rest b)
              ∙ sym (append_assoc i.done (c ∷ []) (commands_of (edition wd) (drop (2 + wd) rest)));
          whole = next_whole i.width (length rest) (length (drop (2 + wd) rest)) l i.whole;
          place =
              (let n : length (i.done ++ (c ∷ [])) ≡ suc (length i.done) = omega (arith, length-append i.done (c ∷ [])) in
              rw n (omega (arith, i.place, answers_next i.width (length i.done))));
          count =
              omega
              (arith, i.count, length-append i.done (c ∷ []), next_count i.width (length rest) (length (drop (2 + wd) rest)) l);
          formed = subst (λ (q : State ℕ). WellFormed (edition wd) w' q) (sym es) s.formed;
          words =
              s.words
              ∙ ap (over (edition wd) o.state) i.words
              ∙ over_over (edition wd) (edition_lawful i.width) st o.state w₀ (sym (perform_as_slots (edition wd) r c st))
              ∙ ap (λ (q : State ℕ). over (edition wd) q w₀) (sym es);
          told =
              ap (λ (q : List ℕ). q ++ out') kept
              ∙ ap (λ (q : List ℕ). all_answers (edition wd) a ++ q) new
              ∙ sym (append_assoc (all_answers (edition wd) a) (answer_words (edition wd) o.answer) (drop (at + (3 + wd)) out₀))
              ∙ ap (λ (q : List ℕ). q ++ drop (at + (3 + wd)) out₀)
              (sym
              (ap (all_answers (edition wd)) ea
              ∙ answers_append wd a (o.answer ∷ [])
              ∙ ap (λ (q : List ℕ). all_answers (edition wd) a ++ q) (append-nil (answer_words (edition wd) o.answer))));
          room = i.room;
        }

  -- Nothing is left: the run is done.
  pub finished : {w rest out : List ℕ} {at : ℕ} → Running w rest out at → length rest ≡ 0 → (st : State ℕ) → WellFormed (edition wd) w₀ st
      → RanAll wd r list st w₀ w out₀ out
  finished {w} {rest} {out} {at} i z st f =
      let e : i.start ≡ st = the_state (edition wd) i.formed₀ f in
      let d : i.done ≡ commands_of (edition wd) list
      = sym (i.split ∙ ap (λ (q : List (Command ℕ)). i.done ++ q) (none_left i.width rest z) ∙ append-nil i.done) in
      let q : perform_all (edition wd) r i.done i.start ≡ perform_all (edition wd) r (commands_of (edition wd) list) st = cc in
      let m : length i.done ≡ length list / (2 + wd) = omega (arith, i.count, none_counted i.width (length rest) z) in
      let n : at ≡ (3 + wd) * (length list / (2 + wd)) = i.place ∙ ap (λ (k : ℕ). (3 + wd) * k) m in
      record {
        told =
            i.told
            ∙ ap (λ (p : Performed ℕ). all_answers (edition wd) p.answers ++ drop at out₀) q
            ∙ ap (λ (k : ℕ). all_answers (edition wd) (perform_all (edition wd) r (commands_of (edition wd) list) st).answers ++ drop k out₀) n;
        words = i.words ∙ ap (λ (p : Performed ℕ). over (edition wd) p.state w₀) q;
      }

-- What a run on a well-formed arena gives: a ragged list, too little room, or the commands done.
module _ (wd : ℕ) (r : Reading) (list w out : List ℕ) (st : State ℕ) where
  pub ran_ragged : (length list % (2 + wd) ≡ 0 → ⊥)
      → ◌≡◌ {A = Ran} (record { returned = 13; arena = w; answers = out }) (run_on (edition wd) r list w out st)
  unfolding refusal
  ran_ragged h = rw (ne_eqb (length list % (2 + wd)) 0 h)

  pub ran_short : length list % (2 + wd) ≡ 0 → length out < (3 + wd) * (length list / (2 + wd))
      → ◌≡◌ {A = Ran} (record { returned = 14; arena = w; answers = out }) (run_on (edition wd) r list w out st)
  unfolding refusal
  ran_short h l = rw (eq-eqb (length list % (2 + wd)) 0 h, lt-leb ((3 + wd) * (length list / (2 + wd))) (length out) l)

  pub ran : (w' out' : List ℕ) → length list % (2 + wd) ≡ 0 → (3 + wd) * (length list / (2 + wd)) ≤ length out → RanAll wd r list st w w' out out'
      → ◌≡◌ {A = Ran} (record { returned = 0; arena = w'; answers = out' }) (run_on (edition wd) r list w out st)
  unfolding refusal
  ran w' out' h l p =
      rw (eq-eqb (length list % (2 + wd)) 0 h, le-leb ((3 + wd) * (length list / (2 + wd))) (length out) l)
      (λ i. record { returned = 0; arena = p.words i; answers = p.told i })
