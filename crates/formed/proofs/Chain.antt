-- The check's walk over the free chain: at each link the answer is no, or that of what is left of the chain.
use mathlib.Core.Bool.{Bool, false}
use mathlib.Core.List.{List, [], ◌∷◌}
use mathlib.Core.Path.{◌≡◌}
use Prim.Native.Nat.{ℕ, zero, suc, ◌+◌, ◌-◌, ◌*◌, ◌<◌, ◌≤◌}
use native.Mathlib.Omega.{arith}
use lib.Dec.{eqb}
use lib.ListN.{get_or}
use Rattle.rules.specs.Edition.{Edition, M}
use Rattle.rules.specs.Arena.{Slot, slot_at}
use Rattle.rules.proofs.Hit.{hit_other}
use Rattle.rules.proofs.Pigeons.{met_below}
use Rattle.formed.specs.Verdict.{Tells, nowhere, ChainStands}
use Rattle.formed.proofs.Tells.{same_answer, where_equal}

module _ {K : Type 0} (ed : Edition K) (w : List ℕ) (n : ℕ) where
  abbrev slot : ℕ → Slot K
  slot = slot_at ed w

  abbrev Asked : ℕ → ℕ → List ℕ → Type 0
  Asked = ChainStands ed w n

  -- The link y is at most n, its slot is free, "key 0, value 0", "M on its right", and a slot is still to come.
  pub record Goes (y count : ℕ) : Type 0 where
    pub low : y ≤ n
    pub many : 0 < count
    pub key : (slot (y - 1)).key ≡ ed.zero_key
    pub value : get_or w ((3 + ed.width) * y + 1) 0 ≡ 0
    pub right : get_or w ((3 + ed.width) * y + 3) 0 ≡ M

  goes : (y count : ℕ) (c : List ℕ) → 0 < y → Asked y count c → Goes y count
  goes y count [] p h = absurd (omega (arith, h.at))
  goes y count (x ∷ c) p h =
      let e : y ≡ suc x = omega (arith, h.at) in
      rw e (grind (arith, met_below n x _ (h.within x)))

  pub stops : (y count : ℕ) → 0 < y → (Goes y count → ⊥) → Tells (Asked y count) false
  stops y count p h = nowhere (λ c k. h (goes y count c p k))

  after : (y count : ℕ) (c : List ℕ) → 0 < y → Asked y count c → (d : List ℕ) × Asked (get_or w ((3 + ed.width) * y + 2) 0) (count - 1) d
  after y count [] p h = absurd (omega (arith, h.at))
  after y count (x ∷ c) p h =
      let e : y ≡ suc x = omega (arith, h.at) in
      (c, rw e (grind arith))

  before : (y count : ℕ) (c : List ℕ) → 0 < y → Goes y count → Asked (get_or w ((3 + ed.width) * y + 2) 0) (count - 1) c
      → (d : List ℕ) × Asked y count d
  before zero count c p g h = absurd (omega arith)
  before (suc s) count c p g h = (s ∷ c, grind (arith, hit_other))

  -- At a free slot.
  pub goes_on : (y count : ℕ) (r : Bool) → 0 < y → Goes y count → Tells (Asked (get_or w ((3 + ed.width) * y + 2) 0) (count - 1)) r
      → Tells (Asked y count) r
  goes_on y count r p g = same_answer (λ c h. before y count c p g h) (λ c h. after y count c p h)

  pub ends : (count : ℕ) → Tells (Asked 0 count) (eqb count 0)
  ends count = where_equal count 0 (λ e. ([], grind arith)) none_left
    where
      none_left : (c : List ℕ) → Asked 0 count c → count ≡ 0
      none_left [] h = omega (arith, h.number)
      none_left (x ∷ c) h = absurd (omega (arith, h.at))

-- What the check of `chain_stands` is given; at the step to the next slot `goes_on` is cited.
pub ruleset steps = (stops, ends)
