use Rattle.std.proofs.Common.{◌≡◌, ℕ, ◌+◌, ◌-◌, ◌≤◌, get_or, ℤ, pos, ◌+ℤ◌, sym, refl, ap, ◌∙◌, subst, inl, inr, arith, length-set}
use Rattle.std.proofs.lemmas.Int.{ints}
use Rattle.std.proofs.lemmas.List.{drop-set-lt}
use Rattle.pooling.specs.Scores.{Within}
use Rattle.pooling.proofs.Summed.{score_bound}
use Rattle.curves.specs.Tables.{stack_score}
use Rattle.curves.specs.declared.side.Side.TheVariants.{Left, Right}
use Rattle.curves.specs.declared.turning.Turn.{Turn}
use Rattle.curves.proofs.Passes.{Apart, both_fit, both_are, three_fit, three_are, kept_is, pass_start, pass_more, pass_end}
use Rattle.curves.proofs.Piles.{front_within, pile_start, pile_more, score_none}
use Rattle.curves.proofs.Scored.{top_apart, right_light, left_score, best_of_table}
use Rattle.curves.proofs.turning.LightTable.best_turn.Goals as goal
use Rattle.curves.proofs.turning.LightTable.best_turn.Goals.{After-score, then-score-best, else-score-best}

pub loop-done-init : goal.loop-done-init
loop-done-init c =
    let light = c.args.self.now in
    let gs = light.table.gaps.now in
    let k = light.table.count in
    let row = c.args.scores.now in
    let known : (t : ℕ) → t ≤ k → get_or row t (pos 0) ≡ stack_score gs k Left t = λ t h. c.requires.fronts t h ∙ sym (left_score gs k light.light.0 t h) in (
      pile_start gs k Right _ _ c.new-stack.ensures.height,
      refl,
      pass_start k (stack_score gs k Left) (stack_score gs k Right) row _ (score_none gs k Right) c.requires.room.1 known
          (kept_is (get_or row k (pos 0)) (subst (Within score_bound) (sym (known k (omega arith))) (front_within gs k Left light.light.0 k (omega arith)))),
      refl,
    )

-- the scores that the row holds: of the backs, and of the front that is still ahead
back_within : (c : After-score) (j p : ℕ) → p ≡ c.args.self.now.table.count - j → j ≤ c.loop-done.done → Within score_bound (get_or c.loop-done.scores p (pos 0))
back_within c j p at h =
    let light = c.args.self.now in
    let gs = light.table.gaps.now in
    let k = light.table.count in
    subst (Within score_bound) (sym (ap (λ (i : ℕ). get_or c.loop-done.scores i (pos 0)) at ∙ c.loop-done.invariant.2.backs j h)) (front_within gs k Right (right_light gs k light.light.1) j (omega arith))

ahead : (c : After-score) → get_or c.loop-done.scores (c.args.self.now.table.count - 1 - c.loop-done.done) (pos 0) ≡ stack_score c.args.self.now.table.gaps.now c.args.self.now.table.count Left (c.args.self.now.table.count - 1 - c.loop-done.done)
ahead c = c.loop-done.invariant.2.ahead (c.args.self.now.table.count - 1 - c.loop-done.done) (omega arith)

ahead_within : (c : After-score) → Within score_bound (get_or c.loop-done.scores (c.args.self.now.table.count - 1 - c.loop-done.done) (pos 0))
ahead_within c =
    let light = c.args.self.now in
    subst (Within score_bound) (sym (ahead c)) (front_within light.table.gaps.now light.table.count Left light.light.0 _ (omega arith))

-- the score of the block at the top
top : (c : After-score) → Apart c.score.result
top c =
    let light = c.args.self.now in
    let gs = light.table.gaps.now in
    let k = light.table.count in
    top_apart gs k Right (right_light gs k light.light.1) c.push_piece-top.result (omega arith) (omega (arith, c.push_piece-top.ensures.places)) c.push_piece-top.ensures.score c.score.ensures

pub overflow_add-back : goal.overflow_add-back
overflow_add-back c = both_fit _ _ (back_within c _ _ refl (omega (arith, c.push_piece-top.ensures.places))) (top c)

pub overflow_add-score : goal.overflow_add-score
overflow_add-score c =
    let p = (goal.at.overflow_add-score c).After-score in
    three_fit _ _ _ (ahead_within p) (back_within p _ _ refl (omega (arith, c.push_piece-top.ensures.places))) (top p)

pub loop-done-preserved : goal.loop-done-preserved
loop-done-preserved c =
    let p = (goal.at.loop-done-preserved c).After-score in
    let gs = c.args.self.now.table.gaps.now in
    let k = c.args.self.now.table.count in
    let done = c.loop-done.done in
    let put = c.push_piece-top.ensures in
    let before : c.push_piece-top.result.first ≤ done = omega (arith, put.places) in
    let there = back_within p _ _ refl before in
    let back = both_are _ _ there (top p) ∙ (λ t. c.loop-done.invariant.2.backs c.push_piece-top.result.first before t +ℤ c.score.ensures t) ∙ sym put.score in
    let total = three_are _ _ _ (ahead_within p) there (top p) ∙ ap (λ (z : ℤ). get_or c.loop-done.scores (k - 1 - done) (pos 0) +ℤ z) (sym (both_are _ _ there (top p))) in (
      pile_more gs k Right c.loop-done.invariant.0 put.pile put.low put.rest put.long,
      put.named ∙ c.loop-done.invariant.1,
      pass_more k (stack_score gs k Left) (stack_score gs k Right) c.loop-done.scores done c.loop-done.best.left c.if-score-best.best.left c.loop-done.best.score c.if-score-best.best.score
          _ _ (omega arith) (omega (arith, c.loop-done.auto.scores, length-set c.args.scores.now k (pos 0), c.requires.room.1)) c.loop-done.invariant.2 back total
          (elim c.if-score-best.branch [
            | then-score-best w ↦ inl (omega (arith, ints, w.if-score-best), ap (λ (b : Turn). b.left) w.best-is, ap (λ (b : Turn). b.score) w.best-is)
            | else-score-best w ↦ inr (omega (arith, ints, w.if-score-best), ap (λ (b : Turn). b.left) w.best-is, ap (λ (b : Turn). b.score) w.best-is)
          ]),
      drop-set-lt (k + 1) c.loop-done.scores (k - 1 - done) _ (omega arith) ∙ c.loop-done.invariant.3,
    )

pub returns-clause-turn : goal.returns-clause-turn
returns-clause-turn c =
    let light = c.args.self.now in
    let gs = light.table.gaps.now in
    let k = light.table.count in
    pass_end k (stack_score gs k Left) (stack_score gs k Right) c.loop-done.scores c.loop-done.done c.loop-done.best.left c.loop-done.best.score (omega arith) c.loop-done.invariant.2
    ∙ best_of_table gs k light.light
