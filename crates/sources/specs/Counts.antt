-- What a source means, and the laws that it owes.
use Rattle.std.specs.Prelude.{◌≡◌, ℕ, ◌+◌, ◌<◌, ◌≤◌}
use Rattle.units.specs.Hours.{last_tick}
use Rattle.sources.specs.Ticks.{upto}

-- two counts for each tick t: the units watched from t - 1 to t, and the failures at age t
pub record Counts : Type 0 where
  pub watched : ℕ → ℕ
  pub failed : ℕ → ℕ

-- the most failures of a source, and the most that its failures and unit-ticks add up to
abbrev pub most_failures : ℕ
most_failures = 1024

abbrev pub most_in_all : ℕ
most_in_all = 2147483648

-- The laws of n watched and f failed. That no unit fails at 0 or past the last tick follows by `within`.
pub record Lawful (n f : ℕ → ℕ) : Type 0 where
  pub within : (t : ℕ) → f t ≤ n t
  pub starts : n 0 ≡ 0
  pub ends : (t : ℕ) → last_tick < t → n t ≡ 0
  pub few : (t : ℕ) → upto f t ≤ most_failures
  pub limited : (t : ℕ) → upto f t + upto n t ≤ most_in_all
