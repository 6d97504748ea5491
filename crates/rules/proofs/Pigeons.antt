-- Sums over the slots below a number. As many things as there are slots, none of them twice, take every slot.
use mathlib.Core.List.{List, [], ◌∷◌}
use mathlib.Core.Logic.{◌⊎◌, inl, inr}
use mathlib.Core.Path.{◌≡◌, refl}
use Prim.Native.Nat.{ℕ, zero, suc, ◌+◌, ◌≤◌, ◌<◌}
use native.Mathlib.Omega.{arith}
use lib.ListN.{length}
use Rattle.rules.specs.Tree.{Tree, none, node, hit, size, times}
use Rattle.rules.specs.Arena.{listed}
use Rattle.rules.proofs.Hit.{hit_same, hit_other, hit_cases}

-- Two slots are the same or not, as `hit` says.
abbrev pub Same : ℕ → ℕ → Type 0
Same x s = ((x ≡ s) × (hit x s ≡ 1)) ⊎ ((x ≡ s → ⊥) × (hit x s ≡ 0))

pub hit_one : (x s : ℕ) → x ≡ s → hit x s ≡ 1
hit_one x s e = rw e (hit_same s)

-- The sum of f s over the slots s below n.
unfoldable pub total : ℕ → (ℕ → ℕ) → ℕ
total zero f = 0
total (suc n) f = f n + total n f

pub total_zero : (n : ℕ) → total n (λ s. 0) ≡ 0
unfolding total
total_zero zero = refl
total_zero (suc n) = omega (arith, total_zero n)

pub total_add : (n : ℕ) (f g : ℕ → ℕ) → total n (λ s. f s + g s) ≡ total n f + total n g
unfolding total
total_add zero f g = refl
total_add (suc n) f g = omega (arith, total_add n f g)

-- A slot from n on is not met below n, and another is met once.
total_hit_none : (n x : ℕ) → n ≤ x → total n (λ s. hit s x) ≡ 0
unfolding total
total_hit_none zero x h = refl
total_hit_none (suc n) x h = omega (arith, hit_other n x (omega arith), total_hit_none n x (omega arith))

pub total_hit : (n x : ℕ) → x < n → total n (λ s. hit s x) ≡ 1
unfolding total
total_hit zero x h = absurd (omega arith)
total_hit (suc n) x h = by (hit_cases n x) (λ k. total_hit n x k)
  where
    by : Same n x → (x < n → total n (λ s. hit s x) ≡ 1) → hit n x + total n (λ s. hit s x) ≡ 1
    by (inl (e, one)) rec = omega (arith, total_hit_none n x (omega arith))
    by (inr (other, no_hit)) rec = omega (arith, rec (omega arith))

-- A slot that is met below n alone is below n.
pub met_below : (n x c : ℕ) → (n ≤ x → hit x x + c ≡ 0) → x < n
met_below n x c h = let k : n ≤ x → ⊥ = (λ b. omega (arith, h b, hit_same x)) in omega arith

pub total_times : {K : Type 0} (n : ℕ) (t : Tree K) → ((s : ℕ) → n ≤ s → times s t ≡ 0) → total n (λ s. times s t) ≡ size t
total_times n none h = total_zero n
total_times n (node e l r) h =
    omega (
      arith,
      total_add n (λ s. hit s e.slot) (λ s. times s l + times s r),
      total_add n (λ s. times s l) (λ s. times s r),
      total_hit n e.slot (met_below n e.slot _ (h e.slot)),
      total_times n l (λ s b. omega (arith, h s b)),
      total_times n r (λ s b. omega (arith, h s b)),
    )

pub total_listed : (n : ℕ) (c : List ℕ) → ((s : ℕ) → n ≤ s → listed s c ≡ 0) → total n (λ s. listed s c) ≡ length c
total_listed n [] h = total_zero n
total_listed n (x ∷ c) h =
    omega (
      arith,
      total_add n (λ s. hit s x) (λ s. listed s c),
      total_hit n x (met_below n x _ (h x)),
      total_listed n c (λ s b. omega (arith, h s b)),
    )

-- What is at most 1 at every slot comes to n at most, and where it comes to n it is 1 at every slot below n.
pub total_few : (n : ℕ) (f : ℕ → ℕ) → ((s : ℕ) → f s ≤ 1) → total n f ≤ n
unfolding total
total_few zero f h = omega arith
total_few (suc n) f h = omega (arith, h n, total_few n f h)

pub total_full : (n : ℕ) (f : ℕ → ℕ) → ((s : ℕ) → f s ≤ 1) → total n f ≡ n → (s : ℕ) → s < n → f s ≡ 1
unfolding total
total_full zero f h e s b = absurd (omega arith)
total_full (suc n) f h e s b = by (hit_cases s n) (λ k. total_full n f h (omega (arith, h n, total_few n f h)) s k)
  where
    by : Same s n → (s < n → f s ≡ 1) → f s ≡ 1
    by (inl (same, one)) rec = rw same (omega (arith, h n, total_few n f h))
    by (inr (other, no_hit)) rec = rec (omega arith)

-- A tree that meets no slot twice, and none from n on, has at most n nodes.
pub few : {K : Type 0} (n : ℕ) (t : Tree K) → ((s : ℕ) → times s t ≤ 1) → ((s : ℕ) → n ≤ s → times s t ≡ 0) → size t ≤ n
few n t once within = omega (arith, total_times n t within, total_few n (λ s. times s t) once)

-- A slot that is met is below n, where those from n on are not.
pub below : (n s c : ℕ) → (n ≤ s → c ≡ 0) → 1 ≤ c → s < n
below zero s c f p = absurd (let e = f (omega arith) in omega arith)
below (suc n) zero c f p = omega arith
below (suc n) (suc s) c f p = let q = below n s c (λ h. f (omega arith)) p in omega arith
