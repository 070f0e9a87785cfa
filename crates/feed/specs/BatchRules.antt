-- The rules of a batch.
use Rattle.std.specs.Prelude.{ℕ, Bool, ◌&&◌, nat_le}
use Rattle.units.specs.Hours.{last_tick}

-- the most units of a batch
abbrev pub most_units : ℕ
most_units = 1024

-- 1 to 1,024 units, and an age from 1 to the last tick
abbrev pub bounded : ℕ → ℕ → Bool
bounded units age = (nat_le 1 units && nat_le units most_units) && (nat_le 1 age && nat_le age last_tick)
