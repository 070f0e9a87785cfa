-- What the answers of the questions are, in words.
use Rattle.std.specs.Prelude.{◌≡◌, ℕ, ◌<◌, min, Some, None, Option}
use Rattle.units.specs.declared.ages.Age.{Age}
use Rattle.sources.specs.Ages.{next_failure, oldest}
use Rattle.sources.specs.Counts.{Lawful}

-- the least age above x with failures, or none where no age above x has any
abbrev pub Next : (ℕ → ℕ) → ℕ → Option Age → Type 0
Next f x None = (t : ℕ) → x < t → f t ≡ 0
Next f x (Some a) = (x < a.0) × (0 < f a.0) × ((t : ℕ) → x < t → t < a.0 → f t ≡ 0)

-- the greatest age at which n is not 0, or 0 where there is none
pub record Oldest (n : ℕ → ℕ) (a : ℕ) : Type 0 where
  pub past : (t : ℕ) → a < t → n t ≡ 0
  pub there : 0 < a → 0 < n a

-- the lower of two ages, each of which may be none
abbrev pub sooner : Option Age → Option Age → Option Age
sooner None b = b
sooner (Some a) None = Some a
sooner (Some a) (Some b) = Some (record { 0 = min a.0 b.0 })

-- of lawful counts, the next failure age is the least above x, and the oldest age the greatest that is watched
abbrev pub QuestionsStand : Type 0
QuestionsStand = (n f : ℕ → ℕ) → Lawful n f → ((x : ℕ) → Next f x (next_failure f x)) × Oldest n (oldest n)
