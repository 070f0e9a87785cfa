-- The faults that a curve may have.
use Rattle.std.specs.Prelude.{◌≡◌, ℕ, ◌+◌, ◌*◌, ◌^◌, ◌<◌, List, map, ◌≢◌}
use Rattle.arith.specs.Fractions.{Fraction}
use Rattle.arith.specs.Log.{squarings}
use Rattle.arith.specs.Rivals.{Piece, fit_product}
use Rattle.arith.specs.Scores.{telling_power}
use Rattle.arith.specs.Sums.{total}
use Rattle.sources.specs.Counts.{Counts, Lawful}
use Rattle.sources.specs.Ticks.{whole}
use Rattle.curves.specs.Curves.{Step, Curve, counted_failures, curve}
use Rattle.curves.specs.Rivals.{Rival, ExpectsNoMore, product_of}
use Rattle.curves.specs.declared.shapes.Shape.{Shape}
use Rattle.curves.specs.declared.shapes.Shape.TheVariants.{UShaped}

-- the curve's product: each step's failures over exposure, once for each failure in it
abbrev pub step_piece : Step → Piece
step_piece s = record { failures = s.failures; exposure = s.exposure }

abbrev pub curve_product : List Step → Fraction
curve_product steps = fit_product (map step_piece steps)

-- y is greater than x
abbrev pub Exceeds : Fraction → Fraction → Type 0
Exceeds y x = x.numerator * y.denominator < y.numerator * x.denominator

-- y ^ power is greater than c times x ^ power
abbrev pub ExceedsTimes : ℕ → ℕ → Fraction → Fraction → Type 0
ExceedsTimes c power y x = c * (x.numerator * y.denominator) ^ power < (y.numerator * x.denominator) ^ power

-- The faults that a curve answered for these counts and this shape may have.
pub data Fault (c : Counts) (shape : Shape) (answer : Curve) : Type 0 where
  -- a rival with the same turning gap expects no more failures than were counted, and has a larger product
  better :
      (r : Rival c shape) → r.turning_gap ≡ answer.turning_gap → ExpectsNoMore r
      → Exceeds (product_of r) (curve_product answer.steps) → Fault c shape answer
  -- of a U-shaped curve, a rival with any turning gap expects no more failures than were counted, and its product to the power 2 ^ (squarings - 2),
  -- which is 16,384, exceeds the curve's to that power by more than a factor of 2 for each counted failure
  far_better :
      (r : Rival c shape) → shape ≡ UShaped → ExpectsNoMore r
      → ExceedsTimes (2 ^ counted_failures c shape) (telling_power squarings) (product_of r) (curve_product answer.steps) → Fault c shape answer
  -- the steps are not those that the rules give
  other_steps : (answer.steps ≢ (curve c shape).steps) → Fault c shape answer
  -- the failures in the steps and those set aside are not the failures of the counts
  lost_failures : (total (λ s. s.failures) answer.steps + answer.set_aside ≢ whole c.failed) → Fault c shape answer
  -- the exposures of the steps do not add up to the unit-ticks of the counts
  lost_exposure : (total (λ s. s.exposure) answer.steps ≢ whole c.watched) → Fault c shape answer

-- No curve has a fault: of lawful counts and any shape, the curve that the rules give has none.
abbrev pub NoCurveHasAFault : Type 0
NoCurveHasAFault = (c : Counts) (shape : Shape) → Lawful c.watched c.failed → Fault c shape (curve c shape) → ⊥
