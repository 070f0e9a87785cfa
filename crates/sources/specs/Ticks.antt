-- Sums of a count for each tick. `upto` is shut: it is not unfolded at a numeral, so no check counts up to the last tick.
use Rattle.std.specs.Prelude.{ℕ, zero, suc, ◌+◌, ◌-◌}
use Rattle.units.specs.Hours.{last_tick}

-- f 1 + f 2 + .. + f t
unfoldable pub upto : (ℕ → ℕ) → ℕ → ℕ
upto f zero = 0
upto f (suc t) = upto f t + f (suc t)

-- the sum of f over x < t ≤ y; 0 where x ≥ y, since `upto` never falls
abbrev pub between : (ℕ → ℕ) → ℕ → ℕ → ℕ
between f x y = upto f y - upto f x

-- the sum of f over all ticks
abbrev pub whole : (ℕ → ℕ) → ℕ
whole f = between f 0 last_tick
