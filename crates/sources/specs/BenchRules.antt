-- The data of a bench run as plain values, and their rules.
use Rattle.std.specs.Prelude.{ℕ, Bool, true, ◌&&◌, List, [], ◌∷◌, length, nat_le}
use Rattle.units.specs.Hours.{last_tick}

-- the units on test, the ages at which some failed, and the age at which the run was stopped
pub record PlainBench : Type 0 where
  pub units : ℕ
  pub ages : List ℕ
  pub stop : ℕ

-- the most units on test
abbrev pub most_units : ℕ
most_units = 1024

-- each age from lo to hi, and none below the one before it
abbrev pub in_order : ℕ → ℕ → List ℕ → Bool
in_order lo hi [] = true
in_order lo hi (x ∷ xs) = (nat_le lo x && nat_le x hi) && in_order x hi xs

-- 1 to 1,024 units, a stop age from 1 to the last tick, and no more failures than units
abbrev pub sizes_valid : ℕ → ℕ → ℕ → Bool
sizes_valid units failures stop = (nat_le 1 units && nat_le units most_units) && ((nat_le 1 stop && nat_le stop last_tick) && nat_le failures units)

-- the rules of bench data: the sizes, and failure ages in order from 1 to the stop age
unfoldable pub valid : PlainBench → Bool
valid b = sizes_valid b.units (length b.ages) b.stop && in_order 1 b.stop b.ages
