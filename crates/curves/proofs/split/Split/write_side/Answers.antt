use Rattle.std.proofs.Common.{◌≡◌, ◌<◌, List, map, length, take, sym, refl, ap, ◌∙◌, arith}
use Rattle.std.proofs.lemmas.List.{take_all}
use Rattle.isotonic.specs.declared.blocks.Block.{Block}
use Rattle.pooling.specs.Kinds.{rate_bulk}
use Rattle.pooling.specs.Pooling.{laid_at}
use Rattle.pooling.specs.Scores.{blocks_score, rate_score}
use Rattle.pooling.specs.declared.rates.Rate.{Rate}
use Rattle.pooling.proofs.Summed.{add_fits, add_is}
use Rattle.pooling.specs.Terms.{rates_modest}
use Rattle.curves.specs.Splits.{split_blocks, split_step}
use Rattle.curves.proofs.Aged.{fit_count, side_bulk}
use Rattle.curves.proofs.Laid.{laid_more}
use Rattle.curves.proofs.split.Split.write_side.Goals as goal
use Rattle.curves.proofs.split.Split.write_side.Goals.{After-score-score}

within : (c : After-score-score) → c.loop-i.i < length (split_blocks c.args.self.now c.args.side)
within c = omega (arith, fit_count c.args.self.now c.args.side c.args.stack.now c.requires.pile)

pub overflow_add-score : goal.overflow_add-score
overflow_add-score c =
    rw c.loop-i.score-is
    (add_fits rate_bulk rate_score rates_modest _ (side_bulk c.args.self.now c.args.side) c.loop-i.i c.block_at-block.result (within c) c.block_at-block.ensures.is
    c.loop-i.score c.score-score.result (sym c.loop-i.score-is ∙ c.loop-i.invariant.1) c.score-score.ensures)

pub loop-i-preserved : goal.loop-i-preserved
loop-i-preserved c = (
  laid_more (split_step c.args.self.now c.args.side) _ c.args.steps.now c.loop-i.steps c.args.at c.loop-i.i c.block_at-block.result c.step_of.result (within c) (omega arith) c.block_at-block.ensures.is
      c.step_of.ensures c.loop-i.invariant.0,
  rw c.loop-i.score-is
      (add_is rate_bulk rate_score rates_modest _ (side_bulk c.args.self.now c.args.side) c.loop-i.i c.block_at-block.result (within c) c.block_at-block.ensures.is
      c.loop-i.score c.score-score.result (sym c.loop-i.score-is ∙ c.loop-i.invariant.1) c.score-score.ensures),
)

pub returns : goal.returns
returns c =
    let s = c.args.self.now in
    let side = c.args.side in
    let count = fit_count s side c.args.stack.now c.requires.pile in
    let all : take c.loop-i.i (split_blocks s side) ≡ split_blocks s side = take_all c.loop-i.i (split_blocks s side) (omega (arith, count)) in
    record {
      all = refl;
      count = count;
      score = c.loop-i.invariant.1 ∙ ap (blocks_score rate_score) all;
      steps = c.loop-i.invariant.0 ∙ ap (λ (bs : List (Block Rate)). laid_at c.args.at (map (split_step s side) bs) c.args.steps.now) all;
    }
