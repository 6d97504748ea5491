-- Every command of demand 3 keeps an ascending list of pairs ascending.
use mathlib.Core.List.{List, [], ◌∷◌}
use mathlib.Core.Option.{Option, none as nil, some}
use mathlib.Core.Path.{◌≡◌, refl}
use Prim.Native.Nat.{ℕ}
use Rattle.rules.specs.Order.{left, right, Order, equal, toward, by_order}
use Rattle.rules.specs.Edition.{Edition}
use Rattle.rules.specs.Command.{Command, get, next, prev, remove, write, insert, min, max, take_first, take_last, clear, len, unknown}
use Rattle.rules.specs.Live.{Pair, Storing, replaces, is_full, adds, but_first, but_last, Before, Ascending, find, put, without, pair, storing, stored, if_there, after}
use Rattle.rules.proofs.Order.{Lawful}
use Rattle.rules.proofs.Ascending.{before_lies, lies_before, lies_on}

module _ {K : Type 0} (ed : Edition K) (laws : Lawful ed) where
  -- What was before the other keys stays so, and the keys go on ascending: a pair put in, a key's pair or an end taken out.
  put_before : (k : K) (p : Pair K) (l : List (Pair K)) → ed.order k p.key ≡ toward left → Before ed k l → Before ed k (put ed p l)
  unfolding put
  put_before k p [] e h = (e, tt)
  put_before k p (x ∷ l) e h = by (ed.order p.key x.key) (put_before k p l e h.1)
    where
      by : (o : Order) → Before ed k (put ed p l) → Before ed k (by_order o (p ∷ l) (p ∷ (x ∷ l)) (x ∷ put ed p l))
      by equal q = (e, h.1)
      by (toward left) q = (e, h)
      by (toward right) q = (h.0, q)

  put_ascending : (p : Pair K) (l : List (Pair K)) → Ascending ed l → Ascending ed (put ed p l)
  unfolding put
  put_ascending p [] h = (tt, tt)
  put_ascending p (x ∷ l) h = by (ed.order p.key x.key) refl (put_ascending p l h.1)
    where
      by : (o : Order) → ed.order p.key x.key ≡ o → Ascending ed (put ed p l)
          → Ascending ed (by_order o (p ∷ l) (p ∷ (x ∷ l)) (x ∷ put ed p l))
      by equal e q = (rw (laws.same p.key x.key e) h.0, h.1)
      by (toward left) e q =
          ((e, lies_before ed p.key l (lies_on ed laws left p.key x.key l e (before_lies ed x.key l h.0))), h)
      by (toward right) e q = (put_before x.key p l (laws.flip right p.key x.key e) h.0, q)

  without_before : (k a : K) (l : List (Pair K)) → Before ed a l → Before ed a (without ed k l)
  unfolding without
  without_before k a [] h = tt
  without_before k a (x ∷ l) h = by (ed.order k x.key) (without_before k a l h.1)
    where
      by : (o : Order) → Before ed a (without ed k l) → Before ed a (by_order o l (x ∷ without ed k l) (x ∷ without ed k l))
      by equal q = h.1
      by (toward left) q = (h.0, q)
      by (toward right) q = (h.0, q)

  without_ascending : (k : K) (l : List (Pair K)) → Ascending ed l → Ascending ed (without ed k l)
  unfolding without
  without_ascending k [] h = tt
  without_ascending k (x ∷ l) h = by (ed.order k x.key) (without_before k x.key l h.0) (without_ascending k l h.1)
    where
      by : (o : Order) → Before ed x.key (without ed k l) → Ascending ed (without ed k l)
          → Ascending ed (by_order o l (x ∷ without ed k l) (x ∷ without ed k l))
      by equal b q = h.1
      by (toward left) b q = (b, q)
      by (toward right) b q = (b, q)

  but_last_before : (k : K) (l : List (Pair K)) → Before ed k l → Before ed k (but_last l)
  unfolding but_last
  but_last_before k [] h = tt
  but_last_before k (x ∷ []) h = tt
  but_last_before k (x ∷ (y ∷ l)) h = (h.0, but_last_before k (y ∷ l) h.1)

  but_last_ascending : (l : List (Pair K)) → Ascending ed l → Ascending ed (but_last l)
  unfolding but_last
  but_last_ascending [] h = tt
  but_last_ascending (x ∷ []) h = tt
  but_last_ascending (x ∷ (y ∷ l)) h = (but_last_before x.key (y ∷ l) h.0, but_last_ascending (y ∷ l) h.1)

  but_first_ascending : (l : List (Pair K)) → Ascending ed l → Ascending ed (but_first l)
  but_first_ascending [] h = tt
  but_first_ascending (x ∷ l) h = h.1

  if_there_ascending : (o : Option (Pair K)) (a b : List (Pair K)) → Ascending ed a → Ascending ed b → Ascending ed (if_there ed o a b)
  if_there_ascending nil a b h p = p
  if_there_ascending (some x) a b h p = h

  stored_ascending : (s : Storing K) (p : Pair K) (l : List (Pair K)) → Ascending ed l → Ascending ed (stored ed s p l)
  stored_ascending (replaces q) p l h = put_ascending p l h
  stored_ascending is_full p l h = h
  stored_ascending adds p l h = put_ascending p l h

  pub after_ascending : (n : ℕ) (c : Command K) (l : List (Pair K)) → Ascending ed l → Ascending ed (after ed n c l)
  unfolding after
  after_ascending n (get k) l h = h
  after_ascending n (write k v) l h = if_there_ascending (find ed k l) _ _ (put_ascending _ l h) h
  after_ascending n (next k) l h = h
  after_ascending n (prev k) l h = h
  after_ascending n (insert k v) l h =
      stored_ascending (storing ed n k l) (pair ed k v) l h
  after_ascending n (remove k) l h = without_ascending k l h
  after_ascending n min l h = h
  after_ascending n max l h = h
  after_ascending n take_first l h = but_first_ascending l h
  after_ascending n take_last l h = but_last_ascending l h
  after_ascending n clear l h = tt
  after_ascending n len l h = h
  after_ascending n unknown l h = h
