-- The steps of each turning gap join end to end, have the max-min values, fall strictly on the left and rise strictly on the right.
use Rattle.std.proofs.Common.{◌≡◌, ℕ, suc, ◌+◌, ◌-◌, ◌≤◌, eqb, List, [], ◌∷◌, ◌++◌, map, length, sym, refl, ap, ◌∙◌, subst, subst₂, arith}
use Rattle.std.specs.List.{AllByRecursion}
use Rattle.std.proofs.ByRecursion.{All-weaker}
use Rattle.std.proofs.lemmas.List.{get_or_past, length-map}
use Rattle.std.proofs.lemmas.Bool.{cond_both, eqb-true}
use Rattle.arith.specs.Rivals.{falling, rising}
use Rattle.isotonic.specs.declared.blocks.Block.{Block}
use Rattle.isotonic.specs.MaxMin as fits
use Rattle.pooling.specs.Kinds.{rate_leq}
use Rattle.pooling.specs.declared.rates.Rate.{Rate}
use Rattle.sources.specs.Ages.{oldest}
use Rattle.sources.specs.Counts.{Counts}
use Rattle.curves.specs.Pieces.{age, left_piece, right_piece, left_pieces, right_pieces, rate_of}
use Rattle.curves.specs.Curves.{Step, left_blocks, right_blocks, block_step, trough_steps, steps, counted_ages, left_of, right_of, left_blocks_of, right_blocks_of}
use Rattle.curves.specs.Rivals.{Allowed}
use Rattle.curves.specs.Theorems.{WholePiece, Joins, HasValues, StepsJoin, StepsTurn, ValuesStand, pooled_left, pooled_right}
use Rattle.curves.specs.declared.shapes.Shape.{Shape}
use Rattle.curves.specs.declared.shapes.Shape.TheVariants.{Falling, Rising, UShaped}
use Rattle.curves.proofs.Faultless.{sound_at}
use Rattle.curves.proofs.Rows.{row_length}
use Rattle.curves.proofs.Turns.{Sound}
use Rattle.curves.proofs.Values.{Tiled, Laid, pieces_laid}

joins_append : (lo mid hi : ℕ) (ss ts : List Step) → Joins lo ss mid → Joins mid ts hi → Joins lo (ss ++ ts) hi
joins_append lo mid hi [] ts h g = subst (λ (k : ℕ). Joins k ts hi) (sym h) g
joins_append lo mid hi (s ∷ ss) ts h g = (h.0, joins_append s.to mid hi ss ts h.1 g)

module _ (n f : ℕ → ℕ) (xs : List ℕ) (end : ℕ) where
  blocks_join : (start lo hi : ℕ) (bs : List (Block Rate)) → Tiled lo bs hi → Joins (age xs end (start + lo)) (map (block_step n f xs end start) bs) (age xs end (start + hi))
  blocks_join start lo hi [] h = ap (λ i. age xs end (start + i)) h
  blocks_join start lo hi (b ∷ bs) h =
      let e : start + suc b.last ≡ suc (start + b.last) = omega arith in (
        ap (λ i. age xs end (start + i)) h.0,
        subst (λ (k : ℕ). Joins (age xs end k) (map (block_step n f xs end start) bs) (age xs end (start + hi))) e (blocks_join start (suc b.last) hi bs h.1),
      )

  trough_joins : (j : ℕ) → Joins (age xs end (j - 1)) (trough_steps n f xs end j) (age xs end j)
  trough_joins j =
      cond_both (eqb (age xs end (j - 1)) (age xs end j)) _ _ (λ l. Joins (age xs end (j - 1)) l (age xs end j))
      (λ e. eqb-true (age xs end (j - 1)) (age xs end j) e) (λ _. (refl, refl))

  module _ (j : ℕ) (s : Sound n f xs end j) where
    pub left_laid : Laid falling (map rate_of (left_pieces n f xs end j)) (left_blocks n f xs end j)
    left_laid = pieces_laid falling (left_pieces n f xs end j) (All-weaker WholePiece _ (λ x h. h.1) _ s.left) (omega (arith, s.failures, s.exposure, s.light))

    pub right_laid : Laid rising (map rate_of (right_pieces n f xs end j)) (right_blocks n f xs end j)
    right_laid = pieces_laid rising (right_pieces n f xs end j) (All-weaker WholePiece _ (λ x h. h.1) _ s.right) (omega (arith, s.failures, s.exposure, s.light))

    pub all_join : 1 ≤ j → j ≤ suc (length xs) → Joins 0 (steps n f xs end j) end
    all_join p q =
        joins_append 0 (age xs end (j - 1)) end (map (block_step n f xs end 0) (left_blocks n f xs end j)) _
        (subst (λ (k : ℕ). Joins 0 (map (block_step n f xs end 0) (left_blocks n f xs end j)) (age xs end k)) left_long
        (blocks_join 0 0 (length (map rate_of (left_pieces n f xs end j))) (left_blocks n f xs end j) left_laid.tiled))
        (joins_append (age xs end (j - 1)) (age xs end j) end (trough_steps n f xs end j) _
        (trough_joins j)
        (subst₂ (λ (a : ℕ) (b : ℕ). Joins a (map (block_step n f xs end j) (right_blocks n f xs end j)) b) (ap (age xs end) none_more) (ap (age xs end) right_long ∙ get_or_past xs (length xs) end (omega arith))
        (blocks_join j 0 (length (map rate_of (right_pieces n f xs end j))) (right_blocks n f xs end j) right_laid.tiled)))
      where
        left_long : 0 + length (map rate_of (left_pieces n f xs end j)) ≡ j - 1
        left_long = omega (arith, length-map (left_pieces n f xs end j) rate_of, row_length (left_piece n f xs end) 1 (j - 1))

        right_long : j + length (map rate_of (right_pieces n f xs end j)) ≡ suc (length xs)
        right_long = omega (arith, length-map (right_pieces n f xs end j) rate_of, row_length (right_piece n f xs end) j (suc (length xs) - j))

        none_more : j + 0 ≡ j
        none_more = omega arith

pub gap_range : (shape : Shape) (k j : ℕ) → Allowed shape k j → (1 ≤ j) × (j ≤ suc k)
gap_range Falling k j a = omega arith
gap_range Rising k j a = omega arith
gap_range UShaped k j a = a

module _ (c : Counts) (shape : Shape) (j : ℕ) where
  pub steps_join : StepsJoin c shape j
  steps_join laws a =
      let r = gap_range shape (length (counted_ages c shape)) j a in
      all_join c.watched c.failed (counted_ages c shape) (oldest c.watched) j (sound_at c shape laws j a) r.0 r.1

  pub steps_turn : StepsTurn c shape j
  steps_turn laws a =
      let s = sound_at c shape laws j a in
      ((left_laid _ _ _ _ j s).moves, (right_laid _ _ _ _ j s).moves)

  pub values_stand : ValuesStand c shape j
  values_stand laws a d =
      let s = sound_at c shape laws j a in (
        subst (λ (k : ℕ). AllByRecursion (HasValues (fits.falling rate_leq (pooled_left c shape j d) k)) (left_blocks_of c shape j)) (length-map (left_of c shape j) rate_of) ((left_laid _ _ _ _ j s).values d),
        subst (λ (k : ℕ). AllByRecursion (HasValues (fits.rising rate_leq (pooled_right c shape j d) k)) (right_blocks_of c shape j)) (length-map (right_of c shape j) rate_of) ((right_laid _ _ _ _ j s).values d),
      )
