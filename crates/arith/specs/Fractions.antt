-- Fractions of whole numbers, added and compared exactly. A denominator is meant to be at least 1.
use Rattle.std.specs.Prelude.{ℕ, ◌+◌, ◌*◌, ◌^◌, ◌≤◌, List, [], ◌∷◌}

pub record Fraction : Type 0 where
  pub numerator : ℕ
  pub denominator : ℕ

-- x is at most y, by cross products.
abbrev pub AtMost : Fraction → Fraction → Type 0
AtMost x y = x.numerator * y.denominator ≤ y.numerator * x.denominator

-- x ^ power is at most c times y ^ power.
abbrev pub AtMostTimes : ℕ → ℕ → Fraction → Fraction → Type 0
AtMostTimes c power x y = (x.numerator * y.denominator) ^ power ≤ c * (y.numerator * x.denominator) ^ power

-- A whole number as a fraction.
abbrev pub whole : ℕ → Fraction
whole n = record { numerator = n; denominator = 1 }

-- The sum of two fractions.
abbrev pub added : Fraction → Fraction → Fraction
added x y = record { numerator = x.numerator * y.denominator + x.denominator * y.numerator; denominator = x.denominator * y.denominator }

-- The sum of f over a list.
abbrev pub sum : {X : Type 0} → (X → Fraction) → List X → Fraction
sum f [] = whole 0
sum f (x ∷ xs) = added (f x) (sum f xs)
