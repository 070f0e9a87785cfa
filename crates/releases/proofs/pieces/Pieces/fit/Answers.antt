use Rattle.std.proofs.Common.{◌≡◌, List, map, length, take, set, replicate, sym, refl, ap, ◌∙◌, subst, arith, rules}
use Rattle.std.proofs.ByRecursion.{All-get_or}
use Rattle.std.proofs.lemmas.List.{take_all, length-take}
use Rattle.isotonic.specs.MaxMin.{on_element}
use Rattle.isotonic.specs.Theorems.{Inside}
use Rattle.isotonic.proofs.Maps.{map_twice}
use Rattle.isotonic.specs.declared.blocks.Block.{Block}
use Rattle.pooling.specs.declared.shares.Share.{Share}
use Rattle.pooling.specs.Kinds.{share_ratio, share_bulk}
use Rattle.pooling.specs.Pooling.{written}
use Rattle.pooling.specs.Scores.{share_score, blocks_score}
use Rattle.pooling.specs.Terms.{shares_modest}
use Rattle.pooling.proofs.Summed.{add_fits, add_is}
use Rattle.releases.specs.Growths.{growth_step}
use Rattle.releases.specs.Limits.{row_count}
use Rattle.releases.specs.Pieces.{piece_shares, piece_releases}
use Rattle.releases.proofs.Fitted.{fitted}
use Rattle.releases.proofs.Written.{written_more}
use Rattle.releases.proofs.pieces.Pieces.fit.Goals as goal

pub step-requires : goal.step-requires
step-requires c =
    let me = c.args.self.now in
    let told = c.in_ok-count.ensures in
    let fit = fitted c.args.self.now c.shares-shares.result.now c.shares-shares.ensures (length c.args.steps.now) (omega arith) (replicate row_count c.default-blocks.result) c.pool_rising.new.blocks c.in_ok-count.count refl told.answer told.memory in
    let places : length me.shares ≡ row_count = search rules in
    let numbers : length me.releases ≡ row_count = search rules in
    let even : length (piece_shares me) ≡ length (piece_releases me) =
    omega (arith, length-take me.count me.shares, length-take me.count me.releases) in
    let is_inside = λ (n : _). Inside n c.block-item.result in
    subst is_inside even
    (subst (Inside (length (piece_shares me))) (sym c.block-item.is) (All-get_or (Inside (length (piece_shares me))) _ c.loop-i.i c.block-item.result c.loop-i-test.true fit.inside))

pub bounds-steps-i : goal.bounds-steps-i
bounds-steps-i c =
    let told = c.in_ok-count.ensures in
    let fit = fitted c.args.self.now c.shares-shares.result.now c.shares-shares.ensures (length c.args.steps.now) (omega arith) (replicate row_count c.default-blocks.result) c.pool_rising.new.blocks c.in_ok-count.count refl told.answer told.memory in
    omega (arith, fit.few)

pub overflow_add-score : goal.overflow_add-score
overflow_add-score c =
    let told = c.in_ok-count.ensures in
    let fit = fitted c.args.self.now c.shares-shares.result.now c.shares-shares.ensures (length c.args.steps.now) (omega arith) (replicate row_count c.default-blocks.result) c.pool_rising.new.blocks c.in_ok-count.count refl told.answer told.memory in
    rw c.loop-i.score-is
    (add_fits share_bulk share_score shares_modest _ fit.light c.loop-i.i c.block-item.result c.loop-i-test.true c.block-item.is c.loop-i.score c.score-score.result (sym c.loop-i.score-is ∙ c.loop-i.invariant.score) c.score-score.ensures)

pub loop-i-preserved : goal.loop-i-preserved
loop-i-preserved c =
    let told = c.in_ok-count.ensures in
    let fit = fitted c.args.self.now c.shares-shares.result.now c.shares-shares.ensures (length c.args.steps.now) (omega arith) (replicate row_count c.default-blocks.result) c.pool_rising.new.blocks c.in_ok-count.count refl told.answer told.memory in
    record {
      memory =
          ap (λ ss. set ss c.loop-i.i c.step.result) c.loop-i.invariant.memory
          ∙ written_more _ _ c.args.steps.now c.loop-i.i c.block-item.result c.step.result c.loop-i-test.true fit.few c.block-item.is c.step.ensures;
      score =
          rw c.loop-i.score-is
          (add_is share_bulk share_score shares_modest _ fit.light c.loop-i.i c.block-item.result c.loop-i-test.true c.block-item.is c.loop-i.score c.score-score.result (sym c.loop-i.score-is ∙ c.loop-i.invariant.score) c.score-score.ensures);
    }

pub returns : goal.returns
returns c =
    let told = c.in_ok-count.ensures in
    let fit = fitted c.args.self.now c.shares-shares.result.now c.shares-shares.ensures (length c.args.steps.now) (omega arith) (replicate row_count c.default-blocks.result) c.pool_rising.new.blocks c.in_ok-count.count refl told.answer told.memory in
    let bs = take c.in_ok-count.count c.pool_rising.new.blocks in
    let all = take_all c.loop-i.i bs c.loop-i-test.false in
    let growth = fit.answer _ (c.loop-i.invariant.score ∙ ap (blocks_score share_score) all) in
    record {
      answer = search rules;
      memory =
          c.loop-i.invariant.memory
          ∙ ap (λ (ys : List (Block Share)). written (map (λ b. growth_step (piece_releases c.args.self.now) (on_element share_ratio b)) ys) c.args.steps.now) all
          ∙ ap (λ xs. written xs c.args.steps.now) (sym (map_twice (growth_step (piece_releases c.args.self.now)) (on_element share_ratio) bs))
          ∙ fit.memory c.args.steps.now;
    }
