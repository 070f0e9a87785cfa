-- A fit pools consecutive pieces of service into blocks and gives each piece the rate of its block, failures over exposure.
-- No rival that moves in the same direction and expects no more failures than were counted makes the counted failures likelier.
use Rattle.std.specs.Prelude.{◌≡◌, ℕ, ◌*◌, ◌^◌, ◌<◌, ◌≤◌, List, [], ◌∷◌, map, reverse, length, take}
use Rattle.std.specs.List.{zip, flat_map, AllByRecursion}
use Rattle.arith.specs.Sums.{total, product}
use Rattle.arith.specs.Fractions.{Fraction, AtMost, whole, sum}

-- A piece of service: the failures counted in it, and its exposure.
pub record Piece : Type 0 where
  pub failures : ℕ
  pub exposure : ℕ

-- Pieces pooled: both numbers are added up.
abbrev pub pooled : List Piece → Piece
pooled ps = record { failures = total (λ x. x.failures) ps; exposure = total (λ x. x.exposure) ps }

-- The rate of x is at most that of y, by cross products.
abbrev pub NoFaster : Piece → Piece → Type 0
NoFaster x y = x.failures * y.exposure ≤ y.failures * x.exposure

-- The direction of a fit, and a list read so that the fit's rates fall along it.
pub data Direction : Type 0 where
  falling rising : Direction

abbrev pub along : {X : Type 0} → Direction → List X → List X
along falling xs = xs
along rising xs = reverse xs

-- Pieces that a falling fit pools into one block: no front of them has a higher rate than all of them.
abbrev pub Solid : List Piece → Type 0
Solid ps = (k : ℕ) → NoFaster (pooled (take k ps)) (pooled ps)

-- All pieces of a list of blocks, in order.
abbrev pub pieces : {X : Type 0} → List (List X) → List X
pieces blocks = flat_map (λ b. b) blocks

-- Each element stands in R to the next.
abbrev pub Next : {X : Type 0} → (X → X → Type 0) → X → List X → Type 0
Next R x [] = Unit {0}
Next R x (y ∷ ys) = R x y

abbrev pub Chain : {X : Type 0} → (X → X → Type 0) → List X → Type 0
Chain R [] = Unit {0}
Chain R (x ∷ xs) = Next R x xs × Chain R xs

-- A piece beside the rate that a rival gives it.
abbrev pub Rated : Type 0
Rated = Piece × Fraction

-- The failures that a rival expects in a piece, rate times exposure.
abbrev pub expected_in : Rated → Fraction
expected_in x = record { numerator = x.1.numerator * x.0.exposure; denominator = x.1.denominator }

-- The failures that a rival expects in all.
abbrev pub expected : List Rated → Fraction
expected rated = sum expected_in rated

-- A rival's product takes the rate of each piece once for each failure there.
abbrev pub rival_product : List Rated → Fraction
rival_product rated = record {
  numerator = product (λ x. x.1.numerator ^ x.0.failures) rated;
  denominator = product (λ x. x.1.denominator ^ x.0.failures) rated;
}

-- A fit's product takes the rate of each block, failures over exposure, once for each failure in it.
abbrev pub fit_product : List Piece → Fraction
fit_product blocks = record {
  numerator = product (λ x. x.failures ^ x.failures) blocks;
  denominator = product (λ x. x.exposure ^ x.failures) blocks;
}

-- A rival gives each piece a rate, a whole number from 0 over one from 1. Beside a falling fit its rates do not rise, beside a rising
-- fit they do not fall, and it expects no more failures than were counted.
pub record Rival (direction : Direction) (ps : List Piece) (rates : List Fraction) : Type 0 where
  pub each : length rates ≡ length ps
  pub denominators : AllByRecursion (λ r. 0 < r.denominator) rates
  pub monotone : Chain (λ r s. AtMost s r) (along direction rates)
  pub expects_no_more : AtMost (expected (zip ps rates)) (whole (pooled ps).failures)

-- No rival has a larger product than the fit.
abbrev pub NoRivalIsLikelier : Type 0
NoRivalIsLikelier =
    (direction : Direction) (blocks : List (List Piece)) (rates : List Fraction)
    → AllByRecursion (λ b. Solid (along direction b)) blocks
    → Rival direction (pieces blocks) rates
    → AtMost (rival_product (zip (pieces blocks) rates)) (fit_product (map pooled blocks))
