use Rattle.std.proofs.Common.{◌≡◌, ℕ, ◌+◌, ◌≤◌, get_or, set, pos, ◌+ℤ◌, sym, refl, ◌∙◌, subst, arith, get_or-set_same, length-set}
use Rattle.std.proofs.lemmas.List.{drop-set-lt}
use Rattle.pooling.specs.Scores.{Within}
use Rattle.pooling.proofs.Summed.{score_bound}
use Rattle.curves.specs.Tables.{stack_score}
use Rattle.curves.specs.declared.side.Side.TheVariants.{Left}
use Rattle.curves.proofs.Passes.{Apart, both_fit, both_are, row_more}
use Rattle.curves.proofs.Piles.{front_within, pile_start, pile_more, score_none}
use Rattle.curves.proofs.Scored.{top_apart, left_score}
use Rattle.curves.proofs.turning.LightTable.score_fronts.Goals as goal
use Rattle.curves.proofs.turning.LightTable.score_fronts.Goals.{After-score}

pub loop-i-init : goal.loop-i-init
loop-i-init c =
    let table = c.args.self.now.table in (
      pile_start table.gaps.now table.count Left _ _ c.new-stack.ensures.height,
      refl,
      λ t h. subst (λ (k : ℕ). get_or (set c.args.scores.now 0 (pos 0)) k (pos 0) ≡ stack_score table.gaps.now table.count Left k) (zero_is t h)
          (get_or-set_same c.args.scores.now 0 (pos 0) (pos 0) (omega (arith, c.requires.room.1)) ∙ sym (score_none table.gaps.now table.count Left)),
      refl,
    )
  where
    zero_is : (i : ℕ) → i ≤ 0 → 0 ≡ i
    zero_is i h = omega arith

-- the scores that the row holds
row_within : (c : After-score) (p : ℕ) → p ≤ c.loop-i.i → Within score_bound (get_or c.loop-i.scores p (pos 0))
row_within c p h =
    let light = c.args.self.now in
    subst (Within score_bound) (sym (c.loop-i.invariant.2 p h)) (front_within light.table.gaps.now light.table.count Left light.light.0 p (omega arith))

-- the score of the block at the top
top : (c : After-score) → Apart c.score.result
top c =
    let light = c.args.self.now in
    top_apart light.table.gaps.now light.table.count Left light.light.0 c.push_piece-top.result (omega arith) (omega (arith, c.push_piece-top.ensures.places)) c.push_piece-top.ensures.score c.score.ensures

pub overflow_add-scores : goal.overflow_add-scores
overflow_add-scores c = both_fit _ _ (row_within c _ (omega (arith, c.push_piece-top.ensures.places))) (top c)

pub loop-i-preserved : goal.loop-i-preserved
loop-i-preserved c =
    let p = (goal.at.loop-i-preserved c).After-score in
    let table = c.args.self.now.table in
    let put = c.push_piece-top.ensures in
    let before : c.push_piece-top.result.first ≤ c.loop-i.i = omega (arith, put.places) in
    let value = both_are _ _ (row_within p _ before) (top p) ∙ (λ t. c.loop-i.invariant.2 c.push_piece-top.result.first before t +ℤ c.score.ensures t) ∙ sym put.score in (
      pile_more table.gaps.now table.count Left c.loop-i.invariant.0 put.pile put.low put.rest put.long,
      put.named ∙ c.loop-i.invariant.1,
      row_more c.loop-i.scores (stack_score table.gaps.now table.count Left) (c.loop-i.i + 1) _ (omega (arith, c.loop-i.auto.scores, length-set c.args.scores.now 0 (pos 0), c.requires.room.1)) (λ j l. c.loop-i.invariant.2 j (omega arith)) value,
      drop-set-lt (table.count + 1) c.loop-i.scores (c.loop-i.i + 1) _ (omega arith) ∙ c.loop-i.invariant.3,
    )

pub returns-clause-scores : goal.returns-clause-scores
returns-clause-scores c t h =
    let light = c.args.self.now in
    c.loop-i.invariant.2 t (omega arith) ∙ left_score light.table.gaps.now light.table.count light.light.0 t h
