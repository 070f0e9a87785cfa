-- What a table that is split at its turning gap gives.
use Rattle.std.specs.Prelude.{ℕ, List, ℤ}
use Rattle.isotonic.specs.declared.blocks.Block.{Block}
use Rattle.pooling.specs.declared.rates.Rate.{Rate}
use Rattle.curves.specs.Tables.{side_size, side_start, side_stack, side_blocks, side_steps, table_step, table_trough, table_score, table_steps}
use Rattle.curves.specs.declared.side.Side.{Side}
use Rattle.curves.specs.declared.split.Split.{Split}
use Rattle.curves.specs.declared.step.Step.{Step}

module _ (s : Split) where
  -- of a side: the number of its pieces, the stack of all of them, its blocks in order of age, a block of it as a step, and its steps
  module _ (side : Side) where
    abbrev pub split_size : ℕ
    split_size = side_size s.table.count s.turn side

    abbrev pub split_stack : List (Block Rate)
    split_stack = side_stack s.table.gaps.now s.table.count side split_size

    abbrev pub split_blocks : List (Block Rate)
    split_blocks = side_blocks s.table.gaps.now s.table.count s.turn side

    abbrev pub split_step : Block Rate → Step
    split_step = table_step s.table.gaps.now (side_start s.turn side)

    abbrev pub split_steps : List Step
    split_steps = side_steps s.table.gaps.now s.table.count s.turn side

  -- the step of the turning gap, unless it is empty
  abbrev pub split_trough : List Step
  split_trough = table_trough s.table.gaps.now s.turn

  -- all steps in order of age, and the score of both sides
  abbrev pub all_steps : List Step
  all_steps = table_steps s.table.gaps.now s.table.count s.turn

  abbrev pub split_score : ℤ
  split_score = table_score s.table.gaps.now s.table.count s.turn
