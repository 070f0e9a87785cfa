-- The rising fit of the pieces of a sheet.
use Rattle.std.proofs.Common.{◌≡◌, ℕ, zero, suc, ◌<◌, ◌≤◌, false, cond, ◌||◌, eqb, ltb, List, [], ◌∷◌, map, length, take, ℤ, Some, None, Ok, sum_by, Option, sym, ap, ◌∙◌, subst, arith}
use Rattle.std.specs.List.{AllByRecursion}
use Rattle.std.proofs.lemmas.List.{length-map, length-take}
use Rattle.std.proofs.lemmas.Bool.{cond-false}
use Rattle.units.specs.Refusals.{Refused, refused}
use Rattle.isotonic.specs.declared.blocks.Block.{Block}
use Rattle.isotonic.specs.Laws.{limit, Laws}
use Rattle.isotonic.specs.MaxMin.{on_element, rising_blocks}
use Rattle.isotonic.specs.Theorems.{Inside}
use Rattle.isotonic.proofs.Bulks.{rising_count, rising_bulk, rising_inside}
use Rattle.pooling.specs.Ratios.{Ratio}
use Rattle.pooling.specs.Kinds.{share_ratio, share_leq, share_joined, share_bulk}
use Rattle.pooling.specs.Pooling.{answered, unless_refused, written, list_refusal, pool_refusal, pool_answer, pool_memory}
use Rattle.pooling.specs.Scores.{trials_score, share_score, blocks_score}
use Rattle.pooling.specs.declared.shares.Share.{Share}
use Rattle.pooling.proofs.Answered.{accepted, pooled_blocks}
use Rattle.pooling.specs.Laws.{ratio_laws}
use Rattle.pooling.specs.Same.{shares_add}
use Rattle.pooling.proofs.Plain.{blocks_plain, score_plain}
use Rattle.releases.specs.declared.pieces.Pieces.{Pieces}
use Rattle.releases.specs.declared.steps.Growth.{Growth}
use Rattle.releases.specs.declared.steps.GrowthStep.{GrowthStep}
use Rattle.releases.specs.Pieces.{piece_shares, piece_releases}
use Rattle.releases.specs.Growths.{share_blocks, share_growth, tried, tried_shares, tried_releases, growth_step, pieces_refusal, growth_answer, growth_memory}
use Rattle.releases.specs.Limits.{row_count}

pub share_laws : Laws share_leq share_joined share_bulk
share_laws = ratio_laws shares_add

some_piece : (n room : ℕ) → pieces_refusal n room ≡ None → 0 < n
some_piece zero room e = let z : ◌≡◌ {A = ℕ} 0 1 = cc in absurd (omega arith)
some_piece (suc n) room e = omega arith

-- what is known of the blocks of an accepted fit, with room for so many steps
pub record Fitted (pieces : Pieces) (room count : ℕ) (blocks : List (Block Share)) : Type 0 where
  pub few : length blocks ≤ room
  pub light : sum_by (λ b. share_bulk b.element) blocks ≤ limit
  pub inside : AllByRecursion (Inside (length (piece_shares pieces))) blocks
  pub answer : (score : ℤ) → score ≡ blocks_score share_score blocks → Ok (record { steps = count; score = score }) ≡ answered (pieces_refusal (length (piece_shares pieces)) room) (share_growth (map share_ratio (piece_shares pieces)))
  pub memory : (steps : List GrowthStep) → written (map (growth_step (piece_releases pieces)) (map (on_element share_ratio) blocks)) steps ≡ unless_refused (pieces_refusal (length (piece_shares pieces)) room) steps (written (map (growth_step (piece_releases pieces)) (share_blocks (map share_ratio (piece_shares pieces)))) steps)

-- the pieces as they are passed on
module _ (pieces : Pieces) (shares : List Share) (are : shares ≡ piece_shares pieces) where
  few : length shares ≤ row_count
  few = omega (arith, ap length are, length-take pieces.count pieces.shares, pieces.few)

  light : sum_by share_bulk shares ≤ limit
  light = omega (arith, ap (sum_by share_bulk) are, pieces.light, pieces.few)

  -- with room for the steps, a fit is refused only where there is no piece
  pub refused_alike : (room : ℕ) → length shares ≤ room → list_refusal row_count (length shares) row_count (sum_by share_bulk shares) ≡ pieces_refusal (length shares) room
  refused_alike room wide =
      ap (λ (q : Option Refused). cond (eqb (length shares) 0) (Some (refused 12)) q) (cond-false _ _ _ fits ∙ cond-false _ _ _ allowed ∙ sym (cond-false _ _ _ holds))
    where
      fits : ltb row_count (length shares) ≡ false
      fits = grind (arith, few)

      allowed : (ltb row_count (length shares) || ltb limit (sum_by share_bulk shares)) ≡ false
      allowed = grind (arith, few, light)

      holds : ltb room (length shares) ≡ false
      holds = grind arith

  -- an accepted fit left its blocks in memory
  module _ (room : ℕ) (holds : length shares ≤ room) (before after : List (Block Share)) (count : ℕ) (wide : length before ≡ row_count) (answer : Ok count ≡ pool_answer share_leq share_joined share_bulk row_count shares (length before)) (memory : after ≡ pool_memory share_leq share_joined share_bulk row_count shares before after) where
    abbrev blocks : List (Block Share)
    blocks = rising_blocks share_leq share_joined shares

    made : (pool_refusal share_leq share_joined share_bulk row_count shares (length before) ≡ None) × (count ≡ length blocks)
    made = accepted (pool_refusal share_leq share_joined share_bulk row_count shares (length before)) (length blocks) count answer

    none : pieces_refusal (length shares) room ≡ None
    none = sym (refused_alike room holds) ∙ ap (λ (w : ℕ). list_refusal row_count (length shares) w (sum_by share_bulk shares)) (sym wide) ∙ made.0

    taken : take count after ≡ blocks
    taken = pooled_blocks share_leq share_joined share_bulk row_count shares before after count answer memory

    fit_blocks : map (on_element share_ratio) (take count after) ≡ share_blocks (map share_ratio shares)
    fit_blocks = ap (map (on_element share_ratio)) taken ∙ blocks_plain shares

    growth : (score : ℤ) → score ≡ blocks_score share_score (take count after) → ◌≡◌ {A = Growth} (record { steps = count; score = score }) (share_growth (map share_ratio shares))
    growth score is = λ i. record { steps = steps i; score = (is ∙ sym (score_plain (take count after)) ∙ ap (blocks_score trials_score) fit_blocks) i }
      where
        steps : count ≡ length (share_blocks (map share_ratio shares))
        steps = made.1 ∙ sym (length-map blocks (on_element share_ratio)) ∙ ap length (blocks_plain shares)

    blocks_inside : AllByRecursion (Inside (length shares)) blocks
    blocks_inside = inside shares light (some_piece (length shares) room none)
      where
        inside : (xs : List Share) → sum_by share_bulk xs ≤ limit → 0 < length xs → AllByRecursion (Inside (length xs)) (rising_blocks share_leq share_joined xs)
        inside [] l h = absurd (omega arith)
        inside (x ∷ xs) l h = rising_inside share_laws (x ∷ xs) l h x

    pub fitted : Fitted pieces room count (take count after)
    fitted = record {
      few = omega (arith, ap length taken, rising_count share_laws shares light, holds);
      light = subst (λ (bs : List (Block Share)). sum_by (λ b. share_bulk b.element) bs ≤ limit) (sym taken) (omega (arith, rising_bulk share_laws shares light, light));
      inside =
          subst (λ (bs : List (Block Share)). AllByRecursion (Inside (length (piece_shares pieces))) bs) (sym taken)
          (subst (λ (xs : List Share). AllByRecursion (Inside (length xs)) blocks) are blocks_inside);
      answer = λ score is.
          ap Ok (growth score is) ∙ ap (λ q. answered q (share_growth (map share_ratio shares))) (sym none)
          ∙ ap (λ (xs : List Share). answered (pieces_refusal (length xs) room) (share_growth (map share_ratio xs))) are;
      memory = λ steps.
          ap (λ (bs : List (Block Ratio)). written (map (growth_step (piece_releases pieces)) bs) steps) fit_blocks
          ∙ ap (λ q. unless_refused q steps (written (map (growth_step (piece_releases pieces)) (share_blocks (map share_ratio shares))) steps)) (sym none)
          ∙ ap (λ (xs : List Share). unless_refused (pieces_refusal (length xs) room) steps (written (map (growth_step (piece_releases pieces)) (share_blocks (map share_ratio xs))) steps)) are;
    }

-- growth over the pieces of a sheet
module _ (rows : List Ratio) (pieces : Pieces) (shares : map share_ratio (piece_shares pieces) ≡ tried_shares rows) (releases : piece_releases pieces ≡ tried_releases rows) (before : List GrowthStep) where
  due : pieces_refusal (length (piece_shares pieces)) (length before) ≡ pieces_refusal (length (tried rows)) (length before)
  due = ap (λ (n : ℕ). pieces_refusal n (length before)) (sym (length-map (piece_shares pieces) share_ratio) ∙ ap length shares ∙ length-map (tried rows) (λ p. p.1))

  pub growth_is : answered (pieces_refusal (length (piece_shares pieces)) (length before)) (share_growth (map share_ratio (piece_shares pieces))) ≡ growth_answer rows (length before)
  growth_is = λ i. answered (due i) (share_growth (shares i))

  pub memory_is : unless_refused (pieces_refusal (length (piece_shares pieces)) (length before)) before (written (map (growth_step (piece_releases pieces)) (share_blocks (map share_ratio (piece_shares pieces)))) before) ≡ growth_memory rows before
  memory_is = λ i. unless_refused (due i) before (written (map (growth_step (releases i)) (share_blocks (shares i))) before)
