-- The table of gaps that a fit works on. Its rows are the gaps 1 to k, and last gap k + 1, from X k to the oldest age. Pieces and rows are counted from 0.
use Rattle.std.specs.Prelude.{ℕ, zero, suc, ◌+◌, ◌-◌, ◌≤◌, cond, List, [], ◌∷◌, ◌++◌, map, reverse, ℤ, ◌+ℤ◌, ◌==◌, sum_by, slice_index_or}
use Rattle.isotonic.specs.declared.blocks.Block.{Block}
use Rattle.isotonic.specs.Laws.{limit}
use Rattle.isotonic.specs.MaxMin.{on_element, rising_blocks, falling_blocks}
use Rattle.isotonic.specs.Stacks.{stack_in, stacked, mirrored}
use Rattle.isotonic.specs.Theorems.{turned}
use Rattle.pooling.specs.Kinds.{rate_part, rate_leq, rate_joined, rate_bulk}
use Rattle.pooling.specs.Scores.{rate_score, blocks_score}
use Rattle.pooling.specs.Turns.{unturned}
use Rattle.pooling.specs.declared.kinds.Turned.{Turned}
use Rattle.pooling.specs.declared.rates.Rate.{Rate}
use Rattle.sources.specs.Gaps.{gaps_from}
use Rattle.sources.specs.declared.gaps.Gap.{Gap}
use Rattle.curves.specs.Curves.{best_gap}
use Rattle.curves.specs.Pieces.{row, rate_of}
use Rattle.curves.specs.declared.shapes.Shape.{Shape}
use Rattle.curves.specs.declared.shapes.Shape.TheVariants.{Falling, Rising, UShaped}
use Rattle.curves.specs.declared.side.Side.{Side}
use Rattle.curves.specs.declared.side.Side.TheVariants.{Left, Right}
use Rattle.curves.specs.declared.step.Step.{Step}

-- stands for a row that a table does not have, which does not occur
abbrev pub no_gap : Gap
no_gap = record { age = record { 0 = 0 }; failures = 0; exposure = record { 0 = 0 } }

module _ (gs : List Gap) where
  abbrev pub gap_at : ℕ → Gap
  gap_at i = slice_index_or gs i no_gap

  -- the age X i: X 0 is 0, and each gap ends at its own age
  abbrev pub table_age : ℕ → ℕ
  table_age zero = 0
  table_age (suc i) = (gap_at i).age.0

  -- the left piece i: the failures at X (i + 1) with the gap that ends there
  abbrev pub left_at : ℕ → Rate
  left_at i = rate_of (record { failures = (gap_at i).failures; exposure = (gap_at i).exposure.0 })

  -- the right piece i: the failures at X (i + 1) with the gap that begins there
  abbrev pub right_at : ℕ → Rate
  right_at i = rate_of (record { failures = (gap_at i).failures; exposure = (gap_at (suc i)).exposure.0 })

  -- a block of pieces that begin at X start, as a step
  abbrev pub table_step : ℕ → Block Rate → Step
  table_step start b = record {
    from = record { 0 = table_age (start + b.first) };
    to = record { 0 = table_age (suc (start + b.last)) };
    failures = rate_part b.element;
    exposure = b.element.exposure;
  }

  -- the turning gap t + 1 has rate 0; an empty one is not written
  abbrev pub table_trough : ℕ → List Step
  table_trough t =
      cond (table_age t == table_age (suc t)) []
      (record { from = record { 0 = table_age t }; to = record { 0 = table_age (suc t) }; failures = 0; exposure = (gap_at t).exposure } ∷ [])

-- with t of k left pieces before the turning gap: the number of pieces of a side, and of the age at which it begins
abbrev pub side_size : ℕ → ℕ → Side → ℕ
side_size k t Left = t
side_size k t Right = k - t

abbrev pub side_start : ℕ → Side → ℕ
side_start t Left = 0
side_start t Right = suc t

-- Of a table of k counted ages, with t left pieces before the turning gap t + 1:
module _ (gs : List Gap) (k t : ℕ) where
  -- the pieces of a side in order of age
  abbrev pub side_pieces : Side → List Rate
  side_pieces Left = row (left_at gs) 0 t
  side_pieces Right = row (right_at gs) t (k - t)

  -- its blocks
  abbrev pub side_blocks : Side → List (Block Rate)
  side_blocks Left = falling_blocks rate_leq rate_joined (side_pieces Left)
  side_blocks Right = rising_blocks rate_leq rate_joined (side_pieces Right)

  -- the score of both sides
  unfoldable pub table_score : ℤ
  table_score = blocks_score rate_score (side_blocks Left) +ℤ blocks_score rate_score (side_blocks Right)

  abbrev pub side_steps : Side → List Step
  side_steps side = map (table_step gs (side_start t side)) (side_blocks side)

  -- all steps, in order of age
  unfoldable pub table_steps : List Step
  table_steps = side_steps Left ++ (table_trough gs t ++ side_steps Right)

-- the pieces of a side in the order in which they are stacked, towards the turning gap
abbrev pub piece_at : List Gap → ℕ → Side → ℕ → Rate
piece_at gs k Left i = left_at gs i
piece_at gs k Right i = right_at gs (k - suc i)

-- the first m of them
abbrev pub pile : List Gap → ℕ → Side → ℕ → List Rate
pile gs k side m = row (piece_at gs k side) 0 m

-- their stack, the top first, and its score
abbrev pub side_stack : List Gap → ℕ → Side → ℕ → List (Block Rate)
side_stack gs k side m = stacked (turned rate_leq) rate_joined (pile gs k side m)

abbrev pub stack_score : List Gap → ℕ → Side → ℕ → ℤ
stack_score gs k side m = blocks_score rate_score (side_stack gs k side m)

-- the pieces of both sides, all of them, stay within the bulk limit
abbrev pub AllLight : List Gap → ℕ → Type 0
AllLight gs k = (sum_by rate_bulk (row (left_at gs) 0 k) ≤ limit) × (sum_by rate_bulk (row (right_at gs) 0 k) ≤ limit)

-- the stack in the first places of a memory, the top first, with its elements unturned
abbrev pub unturn : Block (Turned Rate) → Block Rate
unturn b = on_element unturned b

abbrev pub piled : List (Block (Turned Rate)) → ℕ → List (Block Rate)
piled memory height = map unturn (stack_in memory height)

-- the stack of a side with so many pieces, its blocks in order of age
abbrev pub in_age_order : Side → ℕ → List (Block Rate) → List (Block Rate)
in_age_order Left size bs = reverse bs
in_age_order Right size bs = map (mirrored size) bs

-- the table of counted ages xs
abbrev pub table : (ℕ → ℕ) → (ℕ → ℕ) → List ℕ → ℕ → List Gap
table n f xs oldest = gaps_from n f 0 (xs ++ (oldest ∷ []))

-- the turning gap of a shape, by the table of k counted ages
abbrev pub table_turning : List Gap → ℕ → Shape → ℕ
table_turning gs k Falling = suc k
table_turning gs k Rising = 1
table_turning gs k UShaped = best_gap (λ j. table_score gs k (j - 1)) k
