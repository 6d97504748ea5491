-- Laws of ascending lists of pairs: a list l ++ (x ∷ r) taken apart at x, and what the functions of demand 3 give of
-- it where a key lies right of all of l and left of all of r.
use mathlib.Core.Bool.{Bool, true, false}
use mathlib.Core.List.{List, [], ◌∷◌, ◌++◌, append-nil}
use mathlib.Core.Option.{Option, none as nil, some}
use mathlib.Core.Path.{◌≡◌, refl, ◌∙◌}
use Prim.Native.Nat.{ℕ}
use native.Mathlib.Omega.{arith}
use Rattle.rules.specs.Order.{Side, left, right, toward, is_toward, by_order, choose}
use Rattle.rules.specs.Edition.{Edition}
use Rattle.rules.specs.Live.{Pair, or_else, first, last, but_last, Before, Ascending, find, above, below, put, without}
use Rattle.rules.proofs.Order.{Lawful}

module _ {K : Type 0} where
  -- What stands at the ends of a list with x in it.
  pub first_at : (l : List (Pair K)) (x : Pair K) (r : List (Pair K)) → first (l ++ (x ∷ r)) ≡ or_else (first l) (some x)
  first_at [] x r = refl
  first_at (y ∷ l) x r = refl

  pub last_at : (l : List (Pair K)) (x : Pair K) (r : List (Pair K)) → last (l ++ (x ∷ r)) ≡ or_else (last r) (some x)
  unfolding last
  last_at [] x r = refl
  last_at (y ∷ l) x r = rw (last_at l x r) (by (last r))
    where
      by : (o : Option (Pair K)) → or_else (or_else o (some x)) (some y) ≡ or_else o (some x)
      by nil = refl
      by (some z) = refl

  pub but_last_end : (l : List (Pair K)) (x : Pair K) → but_last (l ++ (x ∷ [])) ≡ l
  unfolding but_last
  but_last_end [] x = refl
  but_last_end (y ∷ []) x = refl
  but_last_end (y ∷ (z ∷ l)) x = rw (but_last_end (z ∷ l) x)

module _ {K : Type 0} (ed : Edition K) where
  -- The key lies on the side s of every key of the list.
  abbrev pub Lies : Side → K → List (Pair K) → Type 0
  Lies s k [] = Unit {0}
  Lies s k (x ∷ l) = (ed.order k x.key ≡ toward s) × Lies s k l

  -- Where it lies left, that is `Before`.
  pub before_lies : (k : K) (l : List (Pair K)) → Before ed k l → Lies left k l
  before_lies k [] h = tt
  before_lies k (x ∷ l) h = (h.0, before_lies k l h.1)

  pub lies_before : (k : K) (l : List (Pair K)) → Lies left k l → Before ed k l
  lies_before k [] h = tt
  lies_before k (x ∷ l) h = (h.0, lies_before k l h.1)

  -- Two lists as one.
  pub lies_both : (s : Side) (k : K) (l r : List (Pair K)) → Lies s k l → Lies s k r → Lies s k (l ++ r)
  lies_both s k [] r h p = p
  lies_both s k (x ∷ l) r h p = (h.0, lies_both s k l r h.1 p)

  pub lies_each : (s : Side) (k : K) (l r : List (Pair K)) → Lies s k (l ++ r) → Lies s k l × Lies s k r
  lies_each s k [] r h = (tt, h)
  lies_each s k (x ∷ l) r h = let p = lies_each s k l r h.1 in ((h.0, p.0), p.1)

  -- A key lies on one side of a list's keys alone.
  pub lies_once : (k : K) (l r : List (Pair K)) (x : Pair K) → Lies left k (l ++ (x ∷ r)) → Lies right k (l ++ (x ∷ r)) → ⊥
  lies_once k [] r x h p = let z : ◌≡◌ {A = ℕ} 0 1 = cc (h.0, p.0) in omega arith
  lies_once k (y ∷ l) r x h p = lies_once k l r x h.1 p.1

  -- Keys that the key lies on a side of are not found, put over or taken out; at x the order of the key and x decides.
  pub find_aside : (s : Side) (k : K) (l m : List (Pair K)) → Lies s k l → find ed k (l ++ m) ≡ find ed k m
  unfolding find
  find_aside s k [] m h = refl
  find_aside left k (x ∷ l) m h = rw h.0 (find_aside left k l m h.1)
  find_aside right k (x ∷ l) m h = rw h.0 (find_aside right k l m h.1)

  pub find_at : (k : K) (l : List (Pair K)) (x : Pair K) (r : List (Pair K)) → Lies right k l → Lies left k r
      → find ed k (l ++ (x ∷ r)) ≡ by_order (ed.order k x.key) (some x) nil nil
  unfolding find
  find_at k l x r h p = find_aside right k l (x ∷ r) h ∙ rw (← append-nil r, find_aside left k r [] p)

  pub put_past : (p : Pair K) (l m : List (Pair K)) → Lies right p.key l → put ed p (l ++ m) ≡ l ++ put ed p m
  unfolding put
  put_past p [] m h = refl
  put_past p (x ∷ l) m h = rw (h.0, put_past p l m h.1)

  put_ahead : (p : Pair K) (r : List (Pair K)) → Lies left p.key r → put ed p r ≡ p ∷ r
  unfolding put
  put_ahead p [] h = refl
  put_ahead p (x ∷ r) h = rw h.0

  pub put_at : (p : Pair K) (l : List (Pair K)) (x : Pair K) (r : List (Pair K)) → Lies right p.key l → Lies left p.key r
      → put ed p (l ++ (x ∷ r)) ≡ l ++ by_order (ed.order p.key x.key) (p ∷ r) (p ∷ (x ∷ r)) (x ∷ (p ∷ r))
  unfolding put
  put_at p l x r h q = rw (put_past p l (x ∷ r) h, put_ahead p r q)

  pub without_aside : (s : Side) (k : K) (l m : List (Pair K)) → Lies s k l → without ed k (l ++ m) ≡ l ++ without ed k m
  unfolding without
  without_aside s k [] m h = refl
  without_aside left k (x ∷ l) m h = rw (h.0, without_aside left k l m h.1)
  without_aside right k (x ∷ l) m h = rw (h.0, without_aside right k l m h.1)

  pub without_at : (k : K) (l : List (Pair K)) (x : Pair K) (r : List (Pair K)) → Lies right k l → Lies left k r
      → without ed k (l ++ (x ∷ r)) ≡ l ++ by_order (ed.order k x.key) r (x ∷ r) (x ∷ r)
  unfolding without
  without_at k l x r h p =
      without_aside right k l (x ∷ r) h ∙ rw (← append-nil r, without_aside left k r [] p, append-nil r)

  -- The first pair above the key, and the last below it, of any list with x in it.
  pub above_at : (k : K) (l : List (Pair K)) (x : Pair K) (r : List (Pair K))
      → above ed k (l ++ (x ∷ r)) ≡ or_else (above ed k l) (choose (is_toward left (ed.order k x.key)) (some x) (above ed k r))
  unfolding above
  above_at k [] x r = refl
  above_at k (y ∷ l) x r = rw (above_at k l x r) (by (is_toward left (ed.order k y.key)) _ _)
    where
      by : (b : Bool) (m n : Option (Pair K)) → choose b (some y) (or_else m n) ≡ or_else (choose b (some y) m) n
      by true m n = refl
      by false m n = refl

  pub below_at : (k : K) (l : List (Pair K)) (x : Pair K) (r : List (Pair K))
      → below ed k (l ++ (x ∷ r)) ≡ or_else (below ed k r) (choose (is_toward right (ed.order k x.key)) (some x) (below ed k l))
  unfolding below
  below_at k [] x r = refl
  below_at k (y ∷ l) x r = rw (below_at k l x r) (by (below ed k r) (is_toward right (ed.order k x.key)) _ _)
    where
      by : (o : Option (Pair K)) (b : Bool) (m n : Option (Pair K))
          → or_else (or_else o (choose b (some x) m)) n ≡ or_else o (choose b (some x) (or_else m n))
      by (some z) b m n = refl
      by nil true m n = refl
      by nil false m n = refl

  pub above_none : (k : K) (l : List (Pair K)) → Lies right k l → above ed k l ≡ nil
  unfolding above
  above_none k [] h = refl
  above_none k (x ∷ l) h = rw h.0 (above_none k l h.1)

  pub below_none : (k : K) (l : List (Pair K)) → Lies left k l → below ed k l ≡ nil
  unfolding below
  below_none k [] h = refl
  below_none k (x ∷ l) h = rw (h.0, below_none k l h.1)

  module _ (laws : Lawful ed) where
    -- A key on the side s of another lies there of all that the other lies on the side s of.
    pub lies_on : (s : Side) (a b : K) (l : List (Pair K)) → ed.order a b ≡ toward s → Lies s b l → Lies s a l
    lies_on s a b [] e h = tt
    lies_on s a b (x ∷ l) e h = (laws.chain s a b x.key e h.0, lies_on s a b l e h.1)

    -- An ascending list taken apart.
    pub apart : (l : List (Pair K)) (x : Pair K) (r : List (Pair K)) → Ascending ed (l ++ (x ∷ r))
        → Ascending ed l × Ascending ed r × Lies right x.key l × Lies left x.key r
    apart [] x r h = (tt, h.1, tt, before_lies x.key r h.0)
    apart (y ∷ l) x r h =
        let p = apart l x r h.1 in
        let b = lies_each left y.key l (x ∷ r) (before_lies y.key (l ++ (x ∷ r)) h.0) in
        ((lies_before y.key l b.0, p.0), p.1, (laws.flip left y.key x.key b.1.0, p.2), p.3)
