-- Sides, and what comparing two keys says.
use Rattle.std.specs.Prelude.{Bool, true, false}
use Prim.Native.Nat.{ℕ, compare, Ordering}

-- The two sides. "The mirror image" of a rule is the same rule at the other side.
pub data Side : Type 0 where
  left right : Side

abbrev pub other : Side → Side
other left = right
other right = left

-- What comparing a key with another says: they are equal, or the key lies on a side of the other, left where it is less and right
-- where it is greater.
pub data Order : Type 0 where
  equal : Order
  toward : Side → Order

-- Does the order say this side?
abbrev pub is_toward : Side → Order → Bool
is_toward s equal = false
is_toward left (toward left) = true
is_toward left (toward right) = false
is_toward right (toward left) = false
is_toward right (toward right) = true

-- The first of two things on the left, the second on the right.
abbrev pub of_side {ℓ} : {A : Type ℓ} → Side → A → A → A
of_side left a b = a
of_side right a b = b

-- One of three things, by how a key compares.
abbrev pub by_order {ℓ} : {A : Type ℓ} → Order → A → A → A → A
by_order equal same less greater = same
by_order (toward left) same less greater = less
by_order (toward right) same less greater = greater

-- The first of two things where a test holds, otherwise the second.
abbrev pub choose {ℓ} : {A : Type ℓ} → Bool → A → A → A
choose true a b = a
choose false a b = b

-- "Keys are compared as numbers."
abbrev pub order_of : Ordering → Order
order_of Ordering.lt = toward left
order_of Ordering.eq = equal
order_of Ordering.gt = toward right

abbrev pub by_number : ℕ → ℕ → Order
by_number a b = order_of (compare a b)
