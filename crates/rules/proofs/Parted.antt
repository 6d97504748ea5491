-- After the splay of an ascending tree, every key left of the root is before the splayed key and every key right of the root is after it:
-- so where the key is not there, the root is "the node of the next key below or above it".
use mathlib.Core.List.{◌∷◌}
use mathlib.Core.Path.{◌≡◌}
use Rattle.rules.specs.Order.{Side, left, right, toward}
use Rattle.rules.specs.Edition.{Edition}
use Rattle.rules.specs.Live.{Ascending}
use Rattle.rules.specs.Tree.{Entry, Tree, none, node, fork, hang, pair_of, entries}
use Rattle.rules.specs.Splay.{Gathered, Splayed, tick, join, assemble, walk, splay}
use Rattle.rules.proofs.Order.{Lawful}
use Rattle.rules.proofs.Splay.{entries_hang_left, entries_hang_right, Splays, equal_stop, no_child, rotate_stop, rotate_link, just_link, splay_obeys}
use Rattle.rules.proofs.Ascending.{Lies, lies_both, lies_on, apart}

module _ {K : Type 0} (ed : Edition K) where
  -- The key lies on the side s of every key of the tree.
  abbrev pub Aside : Side → K → Tree K → Type 0
  Aside s k t = Lies ed s k (entries t)

  -- The root parts the tree at the key.
  abbrev pub Parted : K → Tree K → Type 0
  Parted k none = Unit {0}
  Parted k (node e l r) = Aside right k l × Aside left k r

  module _ (laws : Lawful ed) (k : K) where
    -- A tree made of trees that the key lies on one side of.
    aside_fork : (s d : Side) (e : Entry K) (near far : Tree K) → ed.order k e.key ≡ toward d → Aside d k near → Aside d k far
        → Aside d k (fork s e near far)
    unfolding entries
    aside_fork left d e near far p a b = lies_both ed d k (entries near) (pair_of e ∷ entries far) a (p, b)
    aside_fork right d e near far p a b = lies_both ed d k (entries far) (pair_of e ∷ entries near) b (p, a)

    aside_hang : (s d : Side) (t x : Tree K) → Aside d k t → Aside d k x → Aside d k (hang s t x)
    aside_hang left d t x a b = rw (entries_hang_left t x) (lies_both ed d k (entries x) (entries t) b a)
    aside_hang right d t x a b = rw (entries_hang_right t x) (lies_both ed d k (entries t) (entries x) a b)

    -- What the walk leaves behind at a node on whose side s the key lies: `far` has the key on that side too, and `near` ascends.
    behind : (s : Side) (e : Entry K) (near far : Tree K) → ed.order k e.key ≡ toward s → Ascending ed (entries (fork s e near far))
        → Aside s k far × Ascending ed (entries near)
    unfolding entries
    behind left e near far p h =
        let a = apart ed laws (entries near) (pair_of e) (entries far) h in (lies_on ed laws left k e.key (entries far) p a.3, a.0)
    behind right e near far p h =
        let a = apart ed laws (entries far) (pair_of e) (entries near) h in (lies_on ed laws right k e.key (entries far) p a.2, a.1)

    -- The gathered trees have the key between them.
    abbrev Between : Gathered K → Type 0
    Between g = Aside right k g.left_tree × Aside left k g.right_tree

    between_join : (s : Side) (t : Tree K) (g : Gathered K) → Aside s k t → Between g → Between (join s t g)
    between_join left t g h b = (b.0, aside_hang left left g.right_tree t b.1 h)
    between_join right t g h b = (aside_hang right right g.left_tree t b.0 h, b.1)

    -- Where the walk stops, the gathered trees become the children.
    stopped : (e : Entry K) (l r : Tree K) (g : Gathered K) → Aside right k l → Aside left k r → Between g
        → Parted k (assemble (node e l r) g).tree
    stopped e l r g hl hr b = (aside_hang right right g.left_tree l b.0 hl, aside_hang left left g.right_tree r b.1 hr)

    childless : (s : Side) (e : Entry K) (far : Tree K) (g : Gathered K) → Aside s k far → Between g
        → Parted k (assemble (fork s e none far) g).tree
    unfolding entries
    childless left e far g h b = stopped e none far g tt h b
    childless right e far g h b = stopped e far none g h tt b

    -- Whatever the rules give is parted at the key.
    parted : {t : Tree K} {g : Gathered K} {z : Splayed K} → Splays ed.order k t g z → Ascending ed (entries t) → Between g
        → Parted k z.tree
    unfolding entries
    parted (equal_stop e l r g p) h b =
        let a = apart ed laws (entries l) (pair_of e) (entries r) h in
        let q : k ≡ e.key = laws.same k e.key p in
        stopped e l r (tick g) (rw q a.2) (rw q a.3) b
    parted (no_child s e far g p) h b = childless s e far (tick g) (behind s e none far p h).0 b
    parted (rotate_stop s e c mid far g p q) h b =
        let a = behind s e (fork s c none mid) far p h in
        childless s c (fork s e mid far) (tick (tick g)) (aside_fork s s e mid far p (behind s c none mid q a.1).0 a.0) b
    parted (rotate_link s e c near mid far g z p q x d) h b =
        let a = behind s e (fork s c near mid) far p h in
        let m = behind s c near mid q a.1 in
        parted d m.1
        (between_join s (fork s c none (fork s e mid far)) (tick (tick g))
        (aside_fork s s c none (fork s e mid far) q tt (aside_fork s s e mid far p m.0 a.0)) b)
    parted (just_link s e c l r far g z p q d) h b =
        let a = behind s e (node c l r) far p h in
        parted d a.1 (between_join s (fork s e none far) (tick (tick g)) (aside_fork s s e none far p tt a.0) b)

    pub splay_parted : (t : Tree K) → Ascending ed (entries t) → Parted k (splay ed.order k t).tree
    unfolding splay walk entries
    splay_parted none h = tt
    splay_parted (node e l r) h = parted (splay_obeys ed.order k (node e l r) tt) h (tt, tt)
