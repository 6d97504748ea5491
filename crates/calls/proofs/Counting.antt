-- Commands and answers counted in words, for either width of a key.
use Prim.Native.Nat.{ℕ, suc, ◌+◌, ◌*◌, ◌/◌, ◌%◌, ◌≤◌, ◌<◌}
use mathlib.Core.Path.{◌≡◌}
use native.Mathlib.Omega.{arith}
use Rattle.rules.specs.Edition.{Width}
use Rattle.rules.proofs.Order.{by_width}

-- A whole command more.
pub one_more : {wd : ℕ} → Width wd → (n : ℕ) → n % (2 + wd) ≡ 0 → 0 < n → 2 + wd ≤ n
one_more h = by_width h (λ wd. (n : ℕ) → n % (2 + wd) ≡ 0 → 0 < n → 2 + wd ≤ n) (λ n e p. omega arith) (λ n e p. omega arith)

pub next_count : {wd : ℕ} → Width wd → (n m : ℕ) → m + (2 + wd) ≡ n → n / (2 + wd) ≡ suc (m / (2 + wd))
next_count h =
    by_width h (λ wd. (n m : ℕ) → m + (2 + wd) ≡ n → n / (2 + wd) ≡ suc (m / (2 + wd))) (λ n m e. omega arith) (λ n m e. omega arith)

pub next_whole : {wd : ℕ} → Width wd → (n m : ℕ) → m + (2 + wd) ≡ n → n % (2 + wd) ≡ 0 → m % (2 + wd) ≡ 0
next_whole h =
    by_width h (λ wd. (n m : ℕ) → m + (2 + wd) ≡ n → n % (2 + wd) ≡ 0 → m % (2 + wd) ≡ 0) (λ n m e q. omega arith) (λ n m e q. omega arith)

pub none_counted : {wd : ℕ} → Width wd → (n : ℕ) → n ≡ 0 → n / (2 + wd) ≡ 0
none_counted h = by_width h (λ wd. (n : ℕ) → n ≡ 0 → n / (2 + wd) ≡ 0) (λ n e. omega arith) (λ n e. omega arith)

-- There is room for the answers so far, and for one more where a command is left.
pub room_for : {wd : ℕ} → Width wd → (all done left room : ℕ) → all ≡ done + left → (3 + wd) * all ≤ room → (3 + wd) * done ≤ room
room_for h =
    by_width h (λ wd. (all done left room : ℕ) → all ≡ done + left → (3 + wd) * all ≤ room → (3 + wd) * done ≤ room)
    (λ a d l r e q. omega arith) (λ a d l r e q. omega arith)

pub answers_next : {wd : ℕ} → Width wd → (n : ℕ) → (3 + wd) * suc n ≡ (3 + wd) * n + (3 + wd)
answers_next h = by_width h (λ wd. (n : ℕ) → (3 + wd) * suc n ≡ (3 + wd) * n + (3 + wd)) (λ n. omega arith) (λ n. omega arith)
