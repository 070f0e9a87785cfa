-- The table of gaps of counts gives their pieces, scores and steps.
use Rattle.std.proofs.Common.{◌≡◌, ℕ, zero, suc, ◌+◌, ◌-◌, ◌<◌, ◌≤◌, cond, eqb, List, [], ◌∷◌, ◌++◌, map, length, get_or, take, drop, set, Ok, ◌+ℤ◌, sum_by, sym, refl, ap, ◌∙◌, subst, ap₂, arith}
use Rattle.std.specs.List.{AllByRecursion}
use Rattle.std.proofs.lemmas.List.{append_assoc, drop-append-le, drop-set-lt, get_or-take, map-append, take-append-drop, take-take, take_more_set, take_at, length-append, length-drop}
use Rattle.std.proofs.lemmas.List.Sums.{sum_by-cons}
use Rattle.std.proofs.lemmas.Slice.{drop-append-drop}
use Rattle.std.proofs.lemmas.Bool.Decides.{nat_tests}
use Rattle.std.proofs.lemmas.Bool.{cond-true, le-leb}
use Rattle.arith.specs.Sums.{total}
use Rattle.arith.specs.Rivals.{Direction, falling, rising}
use Rattle.isotonic.specs.declared.blocks.Block.{Block}
use Rattle.isotonic.specs.Laws.{limit}
use Rattle.isotonic.specs.MaxMin.{falling_blocks, rising_blocks}
use Rattle.isotonic.specs.Theorems.{Inside}
use Rattle.isotonic.proofs.Bulks.{rising_inside}
use Rattle.isotonic.proofs.Maps.{cond_map, map_twice}
use Rattle.pooling.specs.Kinds.{rate_leq, rate_joined, rate_bulk}
use Rattle.pooling.specs.Scores.{rate_score, blocks_score}
use Rattle.pooling.specs.declared.rates.Rate.{Rate}
use Rattle.pooling.specs.Terms.{score_append}
use Rattle.sources.specs.Ages.{ages}
use Rattle.sources.specs.Gaps.{gap, gaps_from, gaps, list_answer, list_memory}
use Rattle.sources.specs.declared.gaps.Gap.{Gap}
use Rattle.curves.specs.Curves.{left_blocks, right_blocks, block_step, trough_steps, steps, score}
use Rattle.curves.specs.Fits.{step_made}
use Rattle.curves.specs.Pieces.{row, age, gap_exposure, left_piece, right_piece, left_pieces, right_pieces, rate_of}
use Rattle.curves.specs.Tables.{no_gap, gap_at, table_age, left_at, right_at, side_blocks, table_score, table_step, side_steps, table_trough, table_steps, table}
use Rattle.curves.specs.declared.side.Side.TheVariants.{Left, Right}
use Rattle.curves.specs.declared.step.Step.{Step}
use Rattle.curves.proofs.Parts.{fit, fit_rises, order_laws}
use Rattle.curves.proofs.Rows.{row_shift, row_same, row_map, row_length}

map_alike : {X Y : Type 0} (f h : X → Y) (xs : List X) → AllByRecursion (λ x. f x ≡ h x) xs → map f xs ≡ map h xs
map_alike f h [] e = refl
map_alike f h (x ∷ xs) e = ap₂ (λ y ys. y ∷ ys) e.0 (map_alike f h xs e.1)

-- the blocks of a fit are blocks of its pieces
pub blocks_inside : (direction : Direction) (xs : List Rate) → sum_by rate_bulk xs ≤ limit → AllByRecursion (Inside (length xs)) (fit direction xs)
unfolding rising_blocks falling_blocks
blocks_inside rising [] light = tt
blocks_inside falling [] light = tt
blocks_inside direction (x ∷ xs) light =
    subst (AllByRecursion (Inside (length (x ∷ xs)))) (sym (fit_rises direction (x ∷ xs) light)) (rising_inside (order_laws direction) (x ∷ xs) light (omega arith) x)

-- an accepted listing has room for the gaps
pub listed_count : (k count : ℕ) (memory : List Gap) → Ok count ≡ list_answer k memory → (count ≡ k) × (k ≤ length memory)
listed_count k count memory e = grind (arith, nat_tests, e)

-- gaps that are listed in the first places of memory stand there, and the rest stays
pub listed_front : (k room : ℕ) (gs before : List Gap) → k ≤ length (take room before) → room ≤ length before → list_memory k gs (take room before) ++ drop room before ≡ gs ++ drop k before
listed_front k room gs before fits within =
    ap (λ (ms : List Gap). ms ++ drop room before) (cond-true _ _ _ (le-leb k (length (take room before)) fits))
    ∙ append_assoc gs (drop k (take room before)) (drop room before)
    ∙ ap (λ (ms : List Gap). gs ++ ms) (sym (drop-append-le k (take room before) (drop room before) fits) ∙ ap (drop k) (take-append-drop room before))

-- the failures of the gaps are those at the ages
gaps_failures : (n f : ℕ → ℕ) (end lo : ℕ) (xs : List ℕ) → sum_by (λ g. g.failures) (take (length xs) (gaps_from n f lo (xs ++ (end ∷ [])))) ≡ total f xs
gaps_failures n f end lo [] = refl
gaps_failures n f end lo (x ∷ xs) =
    omega (arith, sum_by-cons (λ g. g.failures) (gap n f lo x) (take (length xs) (gaps_from n f x (xs ++ (end ∷ [])))), gaps_failures n f end x xs)

pub table_failures : (n f : ℕ → ℕ) (end k : ℕ) (xs : List ℕ) (gs : List Gap) → k ≡ length xs → take (k + 1) gs ≡ table n f xs end → sum_by (λ g. g.failures) (take k gs) ≡ total f xs
table_failures n f end k xs gs e is =
    ap (sum_by (λ (g : Gap). g.failures)) (sym (take-take k (k + 1) gs (omega arith)) ∙ ap (take k) is ∙ ap (λ (m : ℕ). take m (table n f xs end)) e) ∙ gaps_failures n f end 0 xs

module _ (n f : ℕ → ℕ) (end : ℕ) where
  table_row : (lo : ℕ) (ys : List ℕ) (i : ℕ) → i ≤ length ys → get_or (gaps_from n f lo (ys ++ (end ∷ []))) i no_gap ≡ gap n f (get_or (lo ∷ ys) i end) (get_or ys i end)
  table_row lo [] zero h = refl
  table_row lo [] (suc i) h = absurd (omega arith)
  table_row lo (y ∷ ys) zero h = refl
  table_row lo (y ∷ ys) (suc i) h = table_row y ys i (omega arith)

  gaps_length : (lo : ℕ) (ys : List ℕ) → length (gaps_from n f lo ys) ≡ length ys
  gaps_length lo [] = refl
  gaps_length lo (y ∷ ys) = ap suc (gaps_length y ys)

  gaps_push : (lo : ℕ) (ys : List ℕ) → gaps_from n f lo (ys ++ (end ∷ [])) ≡ gaps_from n f lo ys ++ (gap n f (get_or (lo ∷ ys) (length ys) end) end ∷ [])
  gaps_push lo [] = refl
  gaps_push lo (y ∷ ys) = ap (λ l. gap n f lo y ∷ l) (gaps_push y ys)

  gap_age : (lo : ℕ) (ys : List ℕ) (rest : List Gap) (i : ℕ) → i < length ys → (get_or (gaps_from n f lo ys ++ rest) i no_gap).age.0 ≡ get_or (lo ∷ ys) (suc i) end
  gap_age lo [] rest i h = absurd (omega arith)
  gap_age lo (y ∷ ys) rest zero h = refl
  gap_age lo (y ∷ ys) rest (suc i) h = gap_age y ys rest i (omega arith)

  -- the gaps of k ages, listed in memory, and then the gap from the last of them
  pub table_listed : (last k oldest : ℕ) (before ms : List Gap) (v : Gap) → k ≡ length (ages f last) → 0 < k → k < length before → ms ≡ gaps n f last ++ drop k before
      → v ≡ gap n f (gap_at ms (k - 1)).age.0 oldest → oldest ≡ end → take (k + 1) (set ms k v) ≡ table n f (ages f last) end
  unfolding gaps
  table_listed last k oldest before ms v e some room whole is at_end =
      take_more_set ms k v inside ∙ (λ i. first i ++ (value i ∷ [])) ∙ sym (gaps_push 0 (ages f last))
    where
      inside : k < length ms
      inside = omega (arith, ap length whole, length-append (gaps_from n f 0 (ages f last)) (drop k before), gaps_length 0 (ages f last), length-drop k before)

      first : take k ms ≡ gaps_from n f 0 (ages f last)
      first = ap (take k) whole ∙ take_at (gaps_from n f 0 (ages f last)) _ k (gaps_length 0 (ages f last) ∙ sym e)

      up : suc (k - 1) ≡ length (ages f last)
      up = omega arith

      value : v ≡ gap n f (get_or (0 ∷ ages f last) (length (ages f last)) end) end
      value =
          is ∙ ap₂ (λ (x y : ℕ). gap n f x y)
          (ap (λ (ys : List Gap). (get_or ys (k - 1) no_gap).age.0) whole ∙ gap_age 0 (ages f last) (drop k before) (k - 1) (omega arith) ∙ ap (λ (i : ℕ). get_or (0 ∷ ages f last) i end) up) at_end

  pub rest_listed : (last k : ℕ) (before ms : List Gap) (v : Gap) → k ≡ length (ages f last) → ms ≡ gaps n f last ++ drop k before → drop (k + 1) (set ms k v) ≡ drop (k + 1) before
  unfolding gaps
  rest_listed last k before ms v e whole =
      drop-set-lt (k + 1) ms k v (omega arith) ∙ ap (drop (k + 1)) whole
      ∙ drop-append-drop k before (gaps_from n f 0 (ages f last)) (k + 1) (omega arith) (gaps_length 0 (ages f last) ∙ sym e)

module _ (n f : ℕ → ℕ) (xs : List ℕ) (end : ℕ) (gs : List Gap) (is : take (length xs + 1) gs ≡ table n f xs end) where
  abbrev k : ℕ
  k = length xs

  -- row i is gap i + 1
  row_is : (i : ℕ) → i ≤ k → gap_at gs i ≡ gap n f (age xs end i) (age xs end (suc i))
  row_is i h = sym (get_or-take (k + 1) gs i no_gap (omega arith)) ∙ ap (λ (ys : List Gap). get_or ys i no_gap) is ∙ table_row n f end 0 xs i h

  age_is : (i : ℕ) → i ≤ suc k → table_age gs i ≡ age xs end i
  age_is zero h = refl
  age_is (suc i) h = ap (λ (g : Gap). g.age.0) (row_is i (omega arith))

  module _ (t : ℕ) (h : t ≤ k) where
    pub left_is : row (left_at gs) 0 t ≡ map rate_of (left_pieces n f xs end (suc t))
    left_is =
        row_same (left_at gs) (λ i. rate_of (left_piece n f xs end (suc i))) 0 t
        (λ i p q. ap (λ (g : Gap). rate_of (record { failures = g.failures; exposure = g.exposure.0 })) (row_is i (omega arith)))
        ∙ sym (row_shift (λ i. rate_of (left_piece n f xs end i)) 0 t) ∙ sym (row_map rate_of (left_piece n f xs end) 1 t)
        ∙ ap (λ (m : ℕ). map rate_of (row (left_piece n f xs end) 1 m)) long
      where
        long : t ≡ suc t - 1
        long = omega arith

    pub right_is : row (right_at gs) t (k - t) ≡ map rate_of (right_pieces n f xs end (suc t))
    right_is =
        row_same (right_at gs) (λ i. rate_of (right_piece n f xs end (suc i))) t (k - t)
        (λ i p q j. rate_of (record { failures = (row_is i (omega arith) j).failures; exposure = (row_is (suc i) (omega arith) j).exposure.0 }))
        ∙ sym (row_shift (λ i. rate_of (right_piece n f xs end i)) t (k - t)) ∙ sym (row_map rate_of (right_piece n f xs end) (suc t) (k - t))
        ∙ ap (λ (m : ℕ). map rate_of (row (right_piece n f xs end) (suc t) m)) long
      where
        long : k - t ≡ suc k - suc t
        long = omega arith

    left_blocks_are : side_blocks gs k t Left ≡ left_blocks n f xs end (suc t)
    left_blocks_are = ap (falling_blocks rate_leq rate_joined) left_is

    right_blocks_are : side_blocks gs k t Right ≡ right_blocks n f xs end (suc t)
    right_blocks_are = ap (rising_blocks rate_leq rate_joined) right_is

    pub score_is : table_score gs k t ≡ score n f xs end (suc t)
    unfolding table_score
    score_is =
        (λ i. blocks_score rate_score (left_blocks_are i) +ℤ blocks_score rate_score (right_blocks_are i))
        ∙ sym (score_append rate_score (left_blocks n f xs end (suc t)) (right_blocks n f xs end (suc t)))

    -- blocks of m pieces that begin at X start
    steps_alike : (start m : ℕ) (bs : List (Block Rate)) → start + m ≤ suc k → AllByRecursion (Inside m) bs → AllByRecursion (λ b. table_step gs start b ≡ step_made (block_step n f xs end start b)) bs
    steps_alike start m [] r all = tt
    steps_alike start m (b ∷ bs) r all =
        let low = all.0.0 in
        let high = all.0.1 in (
          (λ i. record { from = record { 0 = age_is (start + b.first) (omega arith) i }; to = record { 0 = age_is (suc (start + b.last)) (omega arith) i }; failures = b.element.failures; exposure = b.element.exposure }),
          steps_alike start m bs r all.1,
        )

    trough_is : table_trough gs t ≡ map step_made (trough_steps n f xs end (suc t))
    trough_is =
        (λ i. cond (eqb (from_is i) (age_is (suc t) (omega arith) i)) []
        (record { from = record { 0 = from_is i }; to = record { 0 = age_is (suc t) (omega arith) i }; failures = 0; exposure = record { 0 = (row_is t h i).exposure.0 } } ∷ []))
        ∙ sym (cond_map (map step_made) (eqb (age xs end (suc t - 1)) (age xs end (suc t))) [] (record { from = age xs end (suc t - 1); to = age xs end (suc t); failures = 0; exposure = gap_exposure n f xs end (suc t) } ∷ []))
      where
        from_is : table_age gs t ≡ age xs end (suc t - 1)
        from_is = age_is t (omega arith) ∙ (let e : t ≡ suc t - 1 = omega arith in ap (age xs end) e)

    module _ (left_light : sum_by rate_bulk (row (left_at gs) 0 t) ≤ limit) (right_light : sum_by rate_bulk (row (right_at gs) t (k - t)) ≤ limit) where
      left_steps : side_steps gs k t Left ≡ map step_made (map (block_step n f xs end 0) (left_blocks n f xs end (suc t)))
      left_steps =
          map_alike (table_step gs 0) (λ b. step_made (block_step n f xs end 0 b)) (side_blocks gs k t Left)
          (steps_alike 0 t (side_blocks gs k t Left) (omega arith)
          (subst (λ (m : ℕ). AllByRecursion (Inside m) (side_blocks gs k t Left)) (row_length (left_at gs) 0 t) (blocks_inside falling (row (left_at gs) 0 t) left_light)))
          ∙ sym (map_twice step_made (block_step n f xs end 0) (side_blocks gs k t Left))
          ∙ ap (λ (bs : List (Block Rate)). map step_made (map (block_step n f xs end 0) bs)) left_blocks_are

      right_steps : side_steps gs k t Right ≡ map step_made (map (block_step n f xs end (suc t)) (right_blocks n f xs end (suc t)))
      right_steps =
          map_alike (table_step gs (suc t)) (λ b. step_made (block_step n f xs end (suc t) b)) (side_blocks gs k t Right)
          (steps_alike (suc t) (k - t) (side_blocks gs k t Right) (omega arith)
          (subst (λ (m : ℕ). AllByRecursion (Inside m) (side_blocks gs k t Right)) (row_length (right_at gs) t (k - t)) (blocks_inside rising (row (right_at gs) t (k - t)) right_light)))
          ∙ sym (map_twice step_made (block_step n f xs end (suc t)) (side_blocks gs k t Right))
          ∙ ap (λ (bs : List (Block Rate)). map step_made (map (block_step n f xs end (suc t)) bs)) right_blocks_are

      pub steps_are : table_steps gs k t ≡ map step_made (steps n f xs end (suc t))
      unfolding table_steps
      steps_are =
          (λ i. left_steps i ++ (trough_is i ++ right_steps i))
          ∙ ap (λ (ss : List Step). map step_made (map (block_step n f xs end 0) (left_blocks n f xs end (suc t))) ++ ss)
          (sym (map-append step_made (trough_steps n f xs end (suc t)) (map (block_step n f xs end (suc t)) (right_blocks n f xs end (suc t)))))
          ∙ sym (map-append step_made (map (block_step n f xs end 0) (left_blocks n f xs end (suc t))) (trough_steps n f xs end (suc t) ++ map (block_step n f xs end (suc t)) (right_blocks n f xs end (suc t))))
