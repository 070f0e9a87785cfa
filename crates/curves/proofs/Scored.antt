-- The scores of the piles of a table are those of its sides.
use Rattle.std.proofs.Common.{◌≡◌, ℕ, ◌+◌, ◌-◌, ◌<◌, ◌≤◌, List, [], ◌∷◌, map, reverse, length, ℤ, ◌+ℤ◌, sum_by, sym, refl, ap, ◌∙◌, subst, arith}
use Rattle.isotonic.specs.declared.blocks.Block.{Block}
use Rattle.isotonic.specs.Laws.{limit, Commutes}
use Rattle.isotonic.specs.Stacks.{stacked, mirrored}
use Rattle.isotonic.specs.Theorems.{turned}
use Rattle.isotonic.proofs.Falling.{falling_turns}
use Rattle.isotonic.proofs.Mirror.{mirror_fits, sumBy_reverse}
use Rattle.pooling.specs.Kinds.{rate_leq, rate_joined, rate_bulk}
use Rattle.pooling.specs.Scores.{rate_score, blocks_score}
use Rattle.pooling.specs.declared.rates.Rate.{Rate}
use Rattle.pooling.specs.Laws.{ratio_commutes}
use Rattle.pooling.specs.Same.{rates_add}
use Rattle.sources.specs.declared.gaps.Gap.{Gap}
use Rattle.curves.specs.Curves.{best_gap}
use Rattle.curves.specs.Pieces.{row}
use Rattle.curves.specs.Tables.{AllLight, left_at, right_at, pile, side_blocks, stack_score, table_score}
use Rattle.curves.specs.declared.side.Side.{Side}
use Rattle.curves.specs.declared.side.Side.TheVariants.{Left, Right}
use Rattle.curves.proofs.Best.{best_same}
use Rattle.curves.proofs.Parts.{rate_laws}
use Rattle.curves.proofs.Passes.{Apart, apart}
use Rattle.curves.proofs.Piles.{front_within, part_light, score_fits}
use Rattle.curves.proofs.Rows.{row_reverse}

pub rates_commute : Commutes rate_joined rate_bulk
rates_commute = ratio_commutes rates_add

score_mirrored : (n : ℕ) (bs : List (Block Rate)) → blocks_score rate_score (map (mirrored n) bs) ≡ blocks_score rate_score bs
score_mirrored n [] = refl
score_mirrored n (b ∷ bs) = ap (λ (z : ℤ). rate_score b.element +ℤ z) (score_mirrored n bs)

module _ (gs : List Gap) (k : ℕ) where
  -- on the right they are read backwards
  pub pile_right : (t : ℕ) → t ≤ k → pile gs k Right (k - t) ≡ reverse (row (right_at gs) t (k - t))
  pile_right t h =
      row_reverse (right_at gs) k (k - t) (omega arith) ∙ ap (λ (s : ℕ). reverse (row (right_at gs) s (k - t))) start
    where
      start : k - (k - t) ≡ t
      start = omega arith

  pub right_light : sum_by rate_bulk (row (right_at gs) 0 k) ≤ limit → sum_by rate_bulk (pile gs k Right k) ≤ limit
  right_light light =
      subst (λ (ys : List Rate). sum_by rate_bulk ys ≤ limit) (sym (row_reverse (right_at gs) k k (omega arith) ∙ ap (λ (s : ℕ). reverse (row (right_at gs) s k)) none))
      (omega (arith, sumBy_reverse rate_bulk (row (right_at gs) 0 k)))
    where
      none : k - k ≡ 0
      none = omega arith

  -- the score of the block at the top after piece i of a light side
  pub top_apart : (side : Side) → sum_by rate_bulk (pile gs k side k) ≤ limit → (top : Block Rate) → {i : ℕ} {z : ℤ} → i < k → top.first ≤ i → stack_score gs k side (i + 1) ≡ stack_score gs k side top.first +ℤ rate_score top.element → z ≡ rate_score top.element → Apart z
  top_apart side light top {i} {z} within before sum is =
      apart (stack_score gs k side (i + 1)) (stack_score gs k side top.first) z (front_within gs k side light (i + 1) (omega arith)) (front_within gs k side light top.first (omega arith))
      (sum ∙ (λ t. stack_score gs k side top.first +ℤ sym is t))

  -- the score of a side is that of its stack
  pub left_score : sum_by rate_bulk (row (left_at gs) 0 k) ≤ limit → (t : ℕ) → t ≤ k → stack_score gs k Left t ≡ blocks_score rate_score (side_blocks gs k t Left)
  left_score light t h =
      let part = part_light gs k Left light t h in
      score_fits (pile gs k Left t) part ∙ ap (blocks_score rate_score) (sym (falling_turns rate_laws (pile gs k Left t) part))

  right_score : sum_by rate_bulk (row (right_at gs) 0 k) ≤ limit → (t : ℕ) → t ≤ k → stack_score gs k Right (k - t) ≡ blocks_score rate_score (side_blocks gs k t Right)
  right_score light t h =
      ap (λ (ys : List Rate). blocks_score rate_score (stacked (turned rate_leq) rate_joined ys)) (pile_right t h)
      ∙ sym (score_mirrored (length ys) (stacked (turned rate_leq) rate_joined (reverse ys)))
      ∙ ap (blocks_score rate_score) (mirror_fits rate_laws rates_commute ys part)
    where
      ys : List Rate
      ys = row (right_at gs) t (k - t)

      part : sum_by rate_bulk ys ≤ limit
      part = omega (arith, sumBy_reverse rate_bulk ys, ap (sum_by rate_bulk) (pile_right t h), part_light gs k Right (right_light light) (k - t) (omega arith))

  -- both sides together
  table_scores : AllLight gs k → (t : ℕ) → t ≤ k
      → stack_score gs k Left t +ℤ stack_score gs k Right (k - t) ≡ table_score gs k t
  unfolding table_score
  table_scores light t h = λ i. left_score light.0 t h i +ℤ right_score light.1 t h i

  pub best_of_table : AllLight gs k
      → best_gap (λ j. stack_score gs k Left (j - 1) +ℤ stack_score gs k Right (k - (j - 1))) k ≡ best_gap (λ j. table_score gs k (j - 1)) k
  best_of_table light = best_same _ _ k (λ j p q. table_scores light (j - 1) (omega arith))
