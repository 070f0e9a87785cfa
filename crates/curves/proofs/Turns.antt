-- What holds of the curve with a given turning gap: its sums, its product and its score.
use Rattle.std.proofs.Common.{◌≡◌, ℕ, zero, suc, ◌+◌, ◌-◌, ◌*◌, ◌^◌, ◌<◌, ◌≤◌, eqb, List, [], ◌∷◌, ◌++◌, map, length, ℤ, ◌+ℤ◌, sym, refl, ap, ◌∙◌, ap₂, arith}
use native.Mathlib.Nat.{pow-zero}
use Rattle.std.specs.List.{AllByRecursion}
use Rattle.std.proofs.ByRecursion.{All-map, All-weaker}
use Rattle.std.proofs.lemmas.List.{map-append}
use Rattle.std.proofs.lemmas.Bool.{cond_both, eqb-true}
use Rattle.arith.specs.Log.{squarings}
use Rattle.arith.specs.Rivals.{Piece, pooled, falling, rising, Direction, fit_product}
use Rattle.arith.specs.Scores as scores
use Rattle.arith.specs.Scores.{Scorable}
use Rattle.arith.specs.Sums.{total, product}
use Rattle.arith.proofs.Sums.{total_append, total_map, total_pieces, product_append, product_map}
use Rattle.isotonic.specs.declared.blocks.Block.{Block}
use Rattle.isotonic.specs.Laws.{limit}
use Rattle.pooling.specs.Kinds.{rate_whole}
use Rattle.pooling.specs.Scores.{rate_score, blocks_score}
use Rattle.pooling.specs.declared.rates.Rate.{Rate}
use Rattle.sources.specs.Ticks.{upto}
use Rattle.curves.specs.Pieces.{age, gap_exposure, left_pieces, right_pieces}
use Rattle.curves.specs.Curves.{Step, left_blocks, right_blocks, block_step, trough_steps, steps, score}
use Rattle.curves.specs.Faults.{step_piece, curve_product}
use Rattle.curves.specs.Theorems.{WholePiece}
use Rattle.curves.proofs.Parts.{block_piece, Parts, pieces_parts}
use Rattle.curves.proofs.Sides.{Marked, left_whole, right_whole, all_failures, all_exposure}

-- what the pieces of a turning gap keep
pub record Sound (n f : ℕ → ℕ) (xs : List ℕ) (end j : ℕ) : Type 0 where
  pub left : AllByRecursion WholePiece (left_pieces n f xs end j)
  pub right : AllByRecursion WholePiece (right_pieces n f xs end j)
  pub failures : (pooled (left_pieces n f xs end j)).failures + (pooled (right_pieces n f xs end j)).failures ≡ total f xs
  pub exposure : (pooled (left_pieces n f xs end j)).exposure + gap_exposure n f xs end j + (pooled (right_pieces n f xs end j)).exposure ≡ upto n end
  pub empty : age xs end (j - 1) ≡ age xs end j → gap_exposure n f xs end j ≡ 0
  pub light : total f xs + upto n end ≤ limit

pub sound : (n f : ℕ → ℕ) (xs : List ℕ) (end j : ℕ) → Marked n f xs end → total f xs + upto n end ≤ limit → 1 ≤ j → j ≤ suc (length xs)
    → (j ≤ length xs → (age xs end (length xs) < end) × (0 < n end)) → Sound n f xs end j
sound n f xs end zero marks light p q strict = absurd (omega arith)
sound n f xs end (suc m) marks light p q strict = record {
  left = left_whole n f xs end marks m (omega arith);
  right = right_whole n f xs end marks m (omega arith) strict;
  failures = all_failures n f xs end marks m (omega arith);
  exposure = all_exposure n f xs end marks m (omega arith);
  empty = λ e. none (ap (age xs end) less ∙ e);
  light = light;
}
  where
    less : m ≡ suc m - 1
    less = omega arith

    none : age xs end m ≡ age xs end (suc m) → gap_exposure n f xs end (suc m) ≡ 0
    none e = let g = ap (upto n) e in omega arith

-- the sums of blocks are those of the pieces
parts_total : (g : Piece → ℕ) → ((l : List Piece) → g (pooled l) ≡ total g l) → {direction : Direction} {bs : List (Block Rate)} {ps : List Piece} → Parts direction bs ps → total g (map block_piece bs) ≡ total g ps
parts_total g adds p =
    ap (total g) p.sums ∙ total_map pooled g p.parts ∙ each p.parts ∙ sym (total_pieces g p.parts) ∙ ap (total g) p.whole
  where
    each : (ls : List (List Piece)) → total (λ l. g (pooled l)) ls ≡ total (λ l. total g l) ls
    each [] = refl
    each (l ∷ ls) = ap₂ (λ x y. x + y) (adds l) (each ls)

-- each is at most the sum
all_within : {X : Type 0} (g : X → ℕ) (xs : List X) → AllByRecursion (λ x. g x ≤ total g xs) xs
all_within g [] = tt
all_within g (x ∷ xs) = (omega arith, All-weaker (λ y. g y ≤ total g xs) (λ y. g y ≤ g x + total g xs) (λ y h. omega arith) xs (all_within g xs))

-- scores of blocks as scores of pieces
score_pieces : (bs : List (Block Rate)) → blocks_score rate_score bs ≡ scores.score squarings (map block_piece bs)
score_pieces [] = refl
score_pieces (b ∷ bs) = ap (λ (z : ℤ). rate_score b.element +ℤ z) (score_pieces bs)

module _ (n f : ℕ → ℕ) (xs : List ℕ) (end j : ℕ) where
  -- the blocks of both sides, as pieces
  abbrev pub both : List Piece
  both = map block_piece (left_blocks n f xs end j ++ right_blocks n f xs end j)

  pub score_both : score n f xs end j ≡ scores.score squarings both
  score_both = score_pieces (left_blocks n f xs end j ++ right_blocks n f xs end j)

  both_total : (g : Piece → ℕ) → total g both ≡ total g (map block_piece (left_blocks n f xs end j)) + total g (map block_piece (right_blocks n f xs end j))
  both_total g =
      ap (total g) (map-append block_piece (left_blocks n f xs end j) (right_blocks n f xs end j))
      ∙ total_append g (map block_piece (left_blocks n f xs end j)) (map block_piece (right_blocks n f xs end j))

  steps_total : (g : Piece → ℕ) → total (λ s. g (step_piece s)) (steps n f xs end j) ≡ total g both + total (λ s. g (step_piece s)) (trough_steps n f xs end j)
  steps_total g =
      total_append h (map (block_step n f xs end 0) (left_blocks n f xs end j)) _
      ∙ ap₂ (λ x y. x + y) (total_map (block_step n f xs end 0) h (left_blocks n f xs end j) ∙ sym (total_map block_piece g (left_blocks n f xs end j)))
      (total_append h (trough_steps n f xs end j) _
      ∙ ap (λ y. total h (trough_steps n f xs end j) + y) (total_map (block_step n f xs end j) h (right_blocks n f xs end j) ∙ sym (total_map block_piece g (right_blocks n f xs end j))))
      ∙ omega (arith, both_total g)
    where
      h : Step → ℕ
      h s = g (step_piece s)

  -- a trough has no failures, so it does not count in a product
  trough_product : (g : Piece → ℕ) → ((t : ℕ) → g (record { failures = 0; exposure = t }) ≡ 1) → product (λ s. g (step_piece s)) (trough_steps n f xs end j) ≡ 1
  trough_product g one =
      cond_both (eqb (age xs end (j - 1)) (age xs end j)) _ _ (λ l. product (λ s. g (step_piece s)) l ≡ 1) (λ _. refl) (λ _. omega (arith, one (gap_exposure n f xs end j)))

  steps_product : (g : Piece → ℕ) → ((t : ℕ) → g (record { failures = 0; exposure = t }) ≡ 1) → product g (map step_piece (steps n f xs end j)) ≡ product g both
  steps_product g one =
      product_map step_piece g (steps n f xs end j)
      ∙ product_append h (map (block_step n f xs end 0) (left_blocks n f xs end j)) _
      ∙ ap₂ (λ x y. x * y) (product_map (block_step n f xs end 0) h (left_blocks n f xs end j) ∙ sym (product_map block_piece g (left_blocks n f xs end j)))
      (product_append h (trough_steps n f xs end j) _
      ∙ ap₂ (λ x y. x * y) (trough_product g one) (product_map (block_step n f xs end j) h (right_blocks n f xs end j) ∙ sym (product_map block_piece g (right_blocks n f xs end j)))
      ∙ omega arith)
      ∙ sym (ap (product g) (map-append block_piece (left_blocks n f xs end j) (right_blocks n f xs end j))
      ∙ product_append g (map block_piece (left_blocks n f xs end j)) (map block_piece (right_blocks n f xs end j)))
    where
      h : Step → ℕ
      h s = g (step_piece s)

  pub product_both : curve_product (steps n f xs end j) ≡ fit_product both
  product_both = λ i. record {
    numerator = steps_product (λ x. x.failures ^ x.failures) (λ t. refl) i;
    denominator = steps_product (λ x. x.exposure ^ x.failures) (λ t. pow-zero t) i;
  }

  module _ (s : Sound n f xs end j) where
    pub left_parts : Parts falling (left_blocks n f xs end j) (left_pieces n f xs end j)
    left_parts = pieces_parts falling (left_pieces n f xs end j) (All-weaker WholePiece _ (λ x h. h.1) _ s.left) (omega (arith, s.failures, s.exposure, s.light))

    pub right_parts : Parts rising (right_blocks n f xs end j) (right_pieces n f xs end j)
    right_parts = pieces_parts rising (right_pieces n f xs end j) (All-weaker WholePiece _ (λ x h. h.1) _ s.right) (omega (arith, s.failures, s.exposure, s.light))

    pub both_failures : (pooled both).failures ≡ total f xs
    both_failures =
        omega (arith, both_total (λ x. x.failures), parts_total (λ x. x.failures) (λ l. refl) left_parts, parts_total (λ x. x.failures) (λ l. refl) right_parts, s.failures)

    both_exposure : (pooled both).exposure + gap_exposure n f xs end j ≡ upto n end
    both_exposure =
        omega (arith, both_total (λ x. x.exposure), parts_total (λ x. x.exposure) (λ l. refl) left_parts, parts_total (λ x. x.exposure) (λ l. refl) right_parts, s.exposure)

    -- the numbers of each block stay within 32 bits
    pub both_scorable : AllByRecursion Scorable both
    both_scorable = joined both (all_within (λ x. x.failures) both) (all_within (λ x. x.exposure) both) (All-map (λ x. 0 < x.exposure) block_piece _ (exposed (left_blocks n f xs end j ++ right_blocks n f xs end j)))
      where
        exposed : (bs : List (Block Rate)) → AllByRecursion (λ b. 0 < rate_whole b.element) bs
        exposed [] = tt
        exposed (b ∷ bs) = (b.element.exposed, exposed bs)

        joined : (ps : List Piece) → AllByRecursion (λ x. x.failures ≤ (pooled both).failures) ps → AllByRecursion (λ x. x.exposure ≤ (pooled both).exposure) ps → AllByRecursion (λ x. 0 < x.exposure) ps → AllByRecursion Scorable ps
        joined [] a b c = tt
        joined (p ∷ ps) a b c =
            let l = s.light in
            ((omega (arith, a.0, both_failures), c.0, omega (arith, b.0, both_exposure)), joined ps a.1 b.1 c.1)

    -- none is lost: the steps have all counted failures and all exposure
    pub steps_failures : total (λ s. s.failures) (steps n f xs end j) ≡ total f xs
    steps_failures = steps_total (λ x. x.failures) ∙ omega (arith, both_failures, trough)
      where
        trough : total (λ s. s.failures) (trough_steps n f xs end j) ≡ 0
        trough = cond_both (eqb (age xs end (j - 1)) (age xs end j)) _ _ (λ l. total (λ s. s.failures) l ≡ 0) (λ _. refl) (λ _. refl)

    pub steps_exposure : total (λ s. s.exposure) (steps n f xs end j) ≡ upto n end
    steps_exposure = steps_total (λ x. x.exposure) ∙ omega (arith, both_exposure, trough)
      where
        trough : total (λ s. s.exposure) (trough_steps n f xs end j) ≡ gap_exposure n f xs end j
        trough =
            cond_both (eqb (age xs end (j - 1)) (age xs end j)) _ _ (λ l. total (λ s. s.exposure) l ≡ gap_exposure n f xs end j)
            (λ e. sym (s.empty (eqb-true (age xs end (j - 1)) (age xs end j) e))) (λ _. omega arith)
