-- The failure-rate curve of counts: n units watched and f failures at each tick.
use Rattle.std.specs.Prelude.{ℕ, zero, suc, ◌+◌, ◌-◌, min, cond, List, [], ◌∷◌, ◌++◌, map, length, ℤ, Some, None, Option, Result, ◌==◌, int_lt, nat_lt}
use Rattle.units.specs.Refusals.{Refused, refused}
use Rattle.arith.specs.Sums.{total}
use Rattle.arith.specs.Rivals.{Piece}
use Rattle.isotonic.specs.declared.blocks.Block.{Block}
use Rattle.isotonic.specs.MaxMin.{rising_blocks, falling_blocks}
use Rattle.pooling.specs.Kinds.{rate_part, rate_whole, rate_leq, rate_joined}
use Rattle.pooling.specs.Pooling.{answered}
use Rattle.pooling.specs.Scores.{rate_score, blocks_score}
use Rattle.pooling.specs.declared.rates.Rate.{Rate}
use Rattle.sources.specs.Ages.{ages, oldest}
use Rattle.sources.specs.Counts.{Counts}
use Rattle.sources.specs.Ticks.{whole}
use Rattle.curves.specs.Pieces.{age, gap_exposure, left_pieces, right_pieces, trough_piece, rate_of}
use Rattle.curves.specs.declared.shapes.Shape.{Shape}
use Rattle.curves.specs.declared.shapes.Shape.TheVariants.{Falling, Rising, UShaped}

-- a step: from one age to another the rate is failures over exposure
pub record Step : Type 0 where
  pub from : ℕ
  pub to : ℕ
  pub failures : ℕ
  pub exposure : ℕ

-- the steps in order of age, the turning gap, the score, the counted failures, those set aside, and the total time on test
pub record Curve : Type 0 where
  pub steps : List Step
  pub turning_gap : ℕ
  pub score : ℤ
  pub counted : ℕ
  pub set_aside : ℕ
  pub time_on_test : ℕ

-- The counted failure ages X 1 < .. < X k are xs, and gap k + 1 runs to the oldest age. Of a curve with turning gap j:
module _ (n f : ℕ → ℕ) (xs : List ℕ) (oldest : ℕ) where
  -- the left pieces are fitted falling
  abbrev pub left_blocks : ℕ → List (Block Rate)
  left_blocks j = falling_blocks rate_leq rate_joined (map rate_of (left_pieces n f xs oldest j))

  -- the right pieces are fitted rising
  abbrev pub right_blocks : ℕ → List (Block Rate)
  right_blocks j = rising_blocks rate_leq rate_joined (map rate_of (right_pieces n f xs oldest j))

  -- a block of pieces, whose first begins at X `start`, as a step
  abbrev pub block_step : ℕ → Block Rate → Step
  block_step start b = record {
    from = age xs oldest (start + b.first);
    to = age xs oldest (suc (start + b.last));
    failures = rate_part b.element;
    exposure = rate_whole b.element;
  }

  -- the trough has rate 0; an empty trough is not written
  abbrev pub trough_steps : ℕ → List Step
  trough_steps j =
      cond (age xs oldest (j - 1) == age xs oldest j) []
      (record { from = age xs oldest (j - 1); to = age xs oldest j; failures = 0; exposure = gap_exposure n f xs oldest j } ∷ [])

  -- the steps in order of age
  abbrev pub steps : ℕ → List Step
  steps j = map (block_step 0) (left_blocks j) ++ (trough_steps j ++ map (block_step j) (right_blocks j))

  -- the score is the sum over the blocks
  abbrev pub score : ℕ → ℤ
  score j = blocks_score rate_score (left_blocks j ++ right_blocks j)

-- of two gaps the second, if its score is greater
abbrev pub better_gap : (ℕ → ℤ) → ℕ → ℕ → ℕ
better_gap s i j = cond (int_lt (s i) (s j)) j i

-- of the gaps 1 to k + 1 the one with the greatest score, the earliest on a tie
unfoldable pub best_gap : (ℕ → ℤ) → ℕ → ℕ
best_gap s zero = 1
best_gap s (suc k) = better_gap s (best_gap s k) (suc (suc k))

-- the last age at which failures are counted: a falling curve counts all, the others set aside those at the oldest age
abbrev pub last_counted : Counts → Shape → ℕ
last_counted c Falling = oldest c.watched
last_counted c Rising = oldest c.watched - 1
last_counted c UShaped = oldest c.watched - 1

-- the failures set aside
abbrev pub aside : Counts → Shape → ℕ
aside c Falling = 0
aside c Rising = c.failed (oldest c.watched)
aside c UShaped = c.failed (oldest c.watched)

-- Of counts and a shape:
module _ (c : Counts) (shape : Shape) where
  -- the counted failure ages X 1 < .. < X k; those set aside leave the list
  abbrev pub counted_ages : List ℕ
  counted_ages = ages c.failed (last_counted c shape)

  -- d 1 + .. + d k
  abbrev pub counted_failures : ℕ
  counted_failures = total c.failed counted_ages

  -- the pieces of turning gap j on its left, in it and on its right, the blocks, the steps, and the score
  abbrev pub left_of : ℕ → List Piece
  left_of j = left_pieces c.watched c.failed counted_ages (oldest c.watched) j

  abbrev pub trough_of : ℕ → Piece
  trough_of j = trough_piece c.watched c.failed counted_ages (oldest c.watched) j

  abbrev pub right_of : ℕ → List Piece
  right_of j = right_pieces c.watched c.failed counted_ages (oldest c.watched) j

  abbrev pub left_blocks_of : ℕ → List (Block Rate)
  left_blocks_of j = left_blocks c.watched c.failed counted_ages (oldest c.watched) j

  abbrev pub right_blocks_of : ℕ → List (Block Rate)
  right_blocks_of j = right_blocks c.watched c.failed counted_ages (oldest c.watched) j

  abbrev pub steps_of : ℕ → List Step
  steps_of j = steps c.watched c.failed counted_ages (oldest c.watched) j

  abbrev pub score_of : ℕ → ℤ
  score_of j = score c.watched c.failed counted_ages (oldest c.watched) j

-- the turning gap: k + 1 of a falling curve, 1 of a rising one, of a U-shaped one the earliest with the greatest score
abbrev pub turning : Counts → Shape → ℕ
turning c Falling = suc (length (counted_ages c Falling))
turning c Rising = 1
turning c UShaped = best_gap (score_of c UShaped) (length (counted_ages c UShaped))

-- the curve that the rules give
abbrev pub curve : Counts → Shape → Curve
curve c shape = record {
  steps = steps_of c shape (turning c shape);
  turning_gap = turning c shape;
  score = score_of c shape (turning c shape);
  counted = counted_failures c shape;
  set_aside = aside c shape;
  time_on_test = whole c.watched;
}

-- A fit of k counted ages is refused by 12 where there is none, and by 13 where there is room for fewer than k + 1 steps or work places.
abbrev pub fit_refusal : ℕ → ℕ → ℕ → Option Refused
fit_refusal k steps works = cond (k == 0) (Some (refused 12)) (cond (nat_lt (min steps works) (suc k)) (Some (refused 13)) None)

-- what a fit answers, with room for so many steps and work places
abbrev pub fit_answer : Counts → Shape → ℕ → ℕ → Result Curve Refused
fit_answer c shape steps works = answered (fit_refusal (length (counted_ages c shape)) steps works) (curve c shape)
