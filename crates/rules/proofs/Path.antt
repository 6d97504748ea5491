-- "The new root is the last node of the plain search path for the key", whether the key is there or not.
use mathlib.Core.List.{List, [], ◌∷◌}
use mathlib.Core.Option.{Option, none as nil, some}
use mathlib.Core.Path.{◌≡◌, refl, ◌∙◌}
use Rattle.rules.specs.Order.{left, right, Order, by_order}
use Rattle.rules.specs.Live.{or_else, last}
use Rattle.rules.specs.Tree.{Entry, Tree, none, node}
use Rattle.rules.specs.Splay.{Gathered, Splayed, walk, splay, path}
use Rattle.rules.proofs.Splay.{Real, Splays, equal_stop, no_child, rotate_stop, rotate_link, just_link, splay_obeys}

module _ {K : Type 0} where
  abbrev pub root : Tree K → Option (Entry K)
  root none = nil
  root (node e l r) = some e

  -- What stands before the last of a list does not matter.
  last_later : (a b : Entry K) (l : List (Entry K)) → last (b ∷ l) ≡ last (a ∷ (b ∷ l))
  unfolding last
  last_later a b l = by (last l)
    where
      by : (o : Option (Entry K)) → or_else o (some b) ≡ or_else (or_else o (some b)) (some a)
      by nil = refl
      by (some x) = refl

module _ {K : Type 0} (cmp : K → K → Order) (k : K) where
  path_later : (a : Entry K) (t : Tree K) → Real t → last (path cmp k t) ≡ last (a ∷ path cmp k t)
  unfolding path
  path_later a none h = absurd h
  path_later a (node e l r) h = last_later a e (by_order (cmp k e.key) [] (path cmp k l) (path cmp k r))

  ends : {t : Tree K} {g : Gathered K} {z : Splayed K} → Splays cmp k t g z → root z.tree ≡ last (path cmp k t)
  unfolding last path
  ends (equal_stop e l r g p) = rw p
  ends (no_child left e far g p) = rw p
  ends (no_child right e far g p) = rw p
  ends (rotate_stop left e c mid far g p q) = rw (p, q)
  ends (rotate_stop right e c mid far g p q) = rw (p, q)
  ends (rotate_link left e c near mid far g z p q x d) =
      rw (p, q) (ends d ∙ path_later c near x ∙ last_later e c (path cmp k near))
  ends (rotate_link right e c near mid far g z p q x d) =
      rw (p, q) (ends d ∙ path_later c near x ∙ last_later e c (path cmp k near))
  ends (just_link left e c l r far g z p q d) = rw p (ends d ∙ path_later e (node c l r) tt)
  ends (just_link right e c l r far g z p q d) = rw p (ends d ∙ path_later e (node c l r) tt)

  pub splay_ends : (t : Tree K) → root (splay cmp k t).tree ≡ last (path cmp k t)
  unfolding splay walk last path
  splay_ends none = refl
  splay_ends (node e l r) = ends (splay_obeys cmp k (node e l r) tt)
