-- The ages of counts: those with failures, and the oldest that is watched.
use Rattle.std.specs.Prelude.{ℕ, filter, zero, suc, ◌-◌, cond, List, [], ◌∷◌, ◌++◌, Some, None, Option, nat_lt}
use Rattle.units.specs.Hours.{last_tick}
use Rattle.units.specs.declared.ages.Age.{Age}

-- the ages from 1 to t with failures, in order
unfoldable pub ages : (ℕ → ℕ) → ℕ → List ℕ
ages f zero = []
ages f (suc t) = ages f t ++ cond (nat_lt 0 (f (suc t))) (suc t ∷ []) []

-- the same, but only those above x
abbrev pub ages_above : (ℕ → ℕ) → ℕ → ℕ → List ℕ
ages_above f x t = filter (λ u. nat_lt x u) (ages f t)

-- the greatest age from 1 to t at which n is not 0, or 0
unfoldable pub latest : (ℕ → ℕ) → ℕ → ℕ
latest n zero = 0
latest n (suc t) = cond (nat_lt 0 (n (suc t))) (suc t) (latest n t)

-- the oldest age: the greatest at which a unit was watched, or 0
unfoldable pub oldest : (ℕ → ℕ) → ℕ
oldest n = latest n last_tick

-- the first of the k ages above x that has failures, or none
unfoldable pub first_failure : (ℕ → ℕ) → ℕ → ℕ → Option Age
first_failure f x zero = None
first_failure f x (suc k) = cond (nat_lt 0 (f (suc x))) (Some (record { 0 = suc x })) (first_failure f (suc x) k)

-- the next failure age above x, or none
unfoldable pub next_failure : (ℕ → ℕ) → ℕ → Option Age
next_failure f x = first_failure f x (last_tick - x)
