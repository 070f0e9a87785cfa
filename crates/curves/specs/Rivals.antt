-- Rivals of a curve: what they expect, and their product.
use Rattle.std.specs.Prelude.{◌≡◌, ℕ, suc, ◌<◌, ◌≤◌, List, ◌∷◌, ◌++◌, length}
use Rattle.std.specs.List.{zip, AllByRecursion}
use Rattle.arith.specs.Fractions as fraction
use Rattle.arith.specs.Fractions.{Fraction, AtMost}
use Rattle.arith.specs.Rivals.{Chain, Rated, expected, rival_product}
use Rattle.sources.specs.Counts.{Counts}
use Rattle.curves.specs.Curves.{counted_ages, counted_failures, left_of, trough_of, right_of}
use Rattle.curves.specs.declared.shapes.Shape.{Shape}
use Rattle.curves.specs.declared.shapes.Shape.TheVariants.{Falling, Rising, UShaped}

-- the turning gaps that a shape allows, of k counted ages
abbrev pub Allowed : Shape → ℕ → ℕ → Type 0
Allowed Falling k j = j ≡ suc k
Allowed Rising k j = j ≡ 1
Allowed UShaped k j = (1 ≤ j) × (j ≤ suc k)

-- A rival keeps the curve's shape and ages. It names a turning gap that the shape allows, and gives each piece and the trough a rate,
-- a whole number from 0 over one from 1, not rising on the left and not falling on the right.
pub record Rival (c : Counts) (shape : Shape) : Type 0 where
  pub turning_gap : ℕ
  pub allowed : Allowed shape (length (counted_ages c shape)) turning_gap
  pub left : List Fraction
  pub trough : Fraction
  pub right : List Fraction
  pub each_left : length left ≡ length (left_of c shape turning_gap)
  pub each_right : length right ≡ length (right_of c shape turning_gap)
  pub denominators : AllByRecursion (λ r. 0 < r.denominator) (left ++ trough ∷ right)
  pub not_rising : Chain (λ r s. AtMost s r) left
  pub not_falling : Chain (λ r s. AtMost r s) right

module _ {c : Counts} {shape : Shape} (r : Rival c shape) where
  -- the pieces and the trough, each beside its rate
  abbrev pub rated : List Rated
  rated =
      zip (left_of c shape r.turning_gap) r.left
      ++ (trough_of c shape r.turning_gap, r.trough)
      ∷ zip (right_of c shape r.turning_gap) r.right

  -- The sum of rate x exposure is at most the counted failures.
  abbrev pub ExpectsNoMore : Type 0
  ExpectsNoMore = AtMost (expected rated) (fraction.whole (counted_failures c shape))

  -- the rate of each piece once for each failure there; the trough has none
  abbrev pub product_of : Fraction
  product_of = rival_product rated
