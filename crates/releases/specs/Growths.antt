-- Growth: the rising fit of shares over the rows with trials.
use Rattle.std.specs.Prelude.{ℕ, cond, ltb, List, map, length, Some, None, filter, Option, Result, ◌==◌, nat_lt, slice_index}
use Rattle.std.specs.List.{enumerate_from}
use Rattle.units.specs.Refusals.{Refused, refused}
use Rattle.isotonic.specs.declared.blocks.Block.{Block}
use Rattle.isotonic.specs.MaxMin.{rising_blocks}
use Rattle.pooling.specs.Ratios.{Ratio}
use Rattle.pooling.specs.Kinds.{trials_leq, trials_joined}
use Rattle.pooling.specs.Pooling.{answered, unless_refused, written}
use Rattle.pooling.specs.Scores.{trials_score, blocks_score}
use Rattle.releases.specs.declared.steps.Growth.{Growth}
use Rattle.releases.specs.declared.steps.GrowthStep.{GrowthStep}

-- the rows with trials, each with the number of its release
abbrev pub tried : List Ratio → List (ℕ × Ratio)
tried rows = filter (λ p. ltb 0 p.1.whole) (enumerate_from 1 rows)

-- the pieces of the fit, and the release of each
abbrev pub tried_shares : List Ratio → List Ratio
tried_shares rows = map (λ p. p.1) (tried rows)

abbrev pub tried_releases : List Ratio → List ℕ
tried_releases rows = map (λ p. p.0) (tried rows)

-- the blocks of the rising fit of shares
abbrev pub share_blocks : List Ratio → List (Block Ratio)
share_blocks pieces = rising_blocks trials_leq trials_joined pieces

-- a block as a step, from the release of its first piece to that of its last
abbrev pub growth_step : List ℕ → Block Ratio → GrowthStep
growth_step releases b = record {
  first = slice_index releases b.first;
  last = slice_index releases b.last;
  successes = b.element.part;
  trials = b.element.whole;
}

-- n pieces, and room for so many steps: 12 without a piece, 13 with less room than pieces
abbrev pub pieces_refusal : ℕ → ℕ → Option Refused
pieces_refusal n room = cond (n == 0) (Some (refused 12)) (cond (nat_lt room n) (Some (refused 13)) None)

-- the number of blocks, and the sum of their scores
abbrev pub share_growth : List Ratio → Growth
share_growth pieces = record { steps = length (share_blocks pieces); score = blocks_score trials_score (share_blocks pieces) }

abbrev pub growth_steps : List Ratio → List GrowthStep
growth_steps rows = map (growth_step (tried_releases rows)) (share_blocks (tried_shares rows))

-- 12 without a trial, 13 where the step memory is shorter than the rows with trials
abbrev pub growth_refusal : List Ratio → ℕ → Option Refused
growth_refusal rows room = pieces_refusal (length (tried rows)) room

abbrev pub growth_answer : List Ratio → ℕ → Result Growth Refused
growth_answer rows room = answered (growth_refusal rows room) (share_growth (tried_shares rows))

abbrev pub growth_memory : List Ratio → List GrowthStep → List GrowthStep
growth_memory rows before = unless_refused (growth_refusal rows (length before)) before (written (growth_steps rows) before)
