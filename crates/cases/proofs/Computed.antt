-- The worked cases, computed.
use Rattle.std.proofs.Common.{◌≡◌, ℕ, suc, ◌-◌, ◌<◌, ◌≤◌, true, false, ◌&&◌, ltb, leb, List, [], ◌∷◌, ◌++◌, length, pos, neg_ℤ, Ok, Err, Result, sym, refl, ap, ◌∙◌, subst, ap₂, arith}
use lib.Count.{count_leading_zeros}
use Rattle.std.specs.List.{zip, AllByRecursion}
use Rattle.std.proofs.lemmas.Bool.{and_right, lt-leb, ne_eqb}
use Rattle.units.specs.Refusals.{Refused, refused}
use Rattle.units.specs.Hours.{last_tick}
use Rattle.arith.specs.Log.{bits, scaled_log2}
use Rattle.arith.specs.Fractions as fraction
use Rattle.arith.specs.Fractions.{Fraction, AtMost}
use Rattle.arith.specs.Rivals.{Piece, Rated, expected, rival_product}
use Rattle.arith.specs.Sums.{total}
use Rattle.arith.proofs.Log.{log_values}
use Rattle.isotonic.specs.MaxMin.{rising_blocks, falling_blocks}
use Rattle.pooling.specs.Pooling.{answered}
use Rattle.releases.specs.Growths.{growth_answer, growth_memory}
use Rattle.lives.specs.Lives.{PlainPlace}
use Rattle.sources.specs.Ages.{ages, oldest}
use Rattle.sources.specs.BenchLaws.{bench_laws, failed_valid}
use Rattle.sources.specs.Benches.{PlainBench, valid, bench_watched, bench_failed, bench_counts, number_at}
use Rattle.sources.specs.Bounds.{bound_by, bound_answer, last_failure}
use Rattle.sources.specs.Counts.{Counts, Lawful, most_failures}
use Rattle.sources.specs.Questions.{Oldest}
use Rattle.sources.specs.Studies.{study_watched, study_failed, study_counts}
use Rattle.sources.specs.StudyLaws.{Bounded, study_laws}
use Rattle.sources.specs.Ticks.{upto, whole}
use Rattle.sources.specs.declared.bound.Confidence.{Confidence}
use Rattle.sources.specs.declared.bound.Confidence.TheVariants.{Percent95, Percent90}
use Rattle.sources.proofs.Benches.{oldest_stop, failures_are}
use Rattle.sources.proofs.Questions.{oldest_is, latest_is}
use Rattle.curves.specs.Curves.{Curve, steps, score, best_gap, fit_refusal}
use Rattle.curves.specs.Faults.{curve_product, Exceeds, Fault, better}
use Rattle.curves.specs.Pieces.{left_pieces, right_pieces, trough_piece}
use Rattle.curves.specs.Rivals.{Rival}
use Rattle.curves.specs.declared.shapes.Shape.TheVariants.{Falling, UShaped}
use Rattle.curves.proofs.Listed.{whole_watched}
use Rattle.cases.specs.Worked.{fitted, bench, five, four, one, bench_curve, later_curve, five_curve, four_falling_curve, four_u_shaped_curve, one_curve, single_step, noted, growth_step, old_steps, Cases}

-- a falling fit, by the oldest age and the total time on test
falling_by : Counts → ℕ → ℕ → ℕ → Result Curve Refused
falling_by c room o w =
    let xs = ages c.failed o in
    answered (fit_refusal (length xs) room room) (record {
      steps = steps c.watched c.failed xs o (suc (length xs));
      turning_gap = suc (length xs);
      score = score c.watched c.failed xs o (suc (length xs));
      counted = total c.failed xs;
      set_aside = 0;
      time_on_test = w;
    })

falling_is : (c : Counts) (room : ℕ) → fitted c Falling room ≡ falling_by c room (oldest c.watched) (whole c.watched)
unfolding falling_by
falling_is c room = refl

-- ---- bench runs

module _ (b : PlainBench) (ok : valid b ≡ true) (more : length b.ages < b.units) where
  bench_oldest : oldest (bench_watched b) ≡ b.stop
  bench_oldest = sym (oldest_is (bench_watched b) (bench_failed b) (bench_laws b) b.stop (oldest_stop b ok more))

  bench_time : whole (bench_watched b) ≡ upto (bench_watched b) b.stop
  bench_time = sym (whole_watched (bench_watched b) (bench_failed b) (bench_laws b)) ∙ ap (upto (bench_watched b)) bench_oldest

  bench_fit : (room : ℕ) → fitted (bench_counts b) Falling room ≡ falling_by (bench_counts b) room b.stop (upto (bench_watched b) b.stop)
  bench_fit room = falling_is (bench_counts b) room ∙ ap₂ (falling_by (bench_counts b) room) bench_oldest bench_time

valid_38 : valid (bench 38) ≡ true
unfolding valid
valid_38 = refl

valid_50 : valid (bench 50) ≡ true
unfolding valid
valid_50 = refl

computed_38 : falling_by (bench_counts (bench 38)) 7 38 (upto (bench_watched (bench 38)) 38)
    ≡ Ok bench_curve
unfolding falling_by ages upto valid bench_watched bench_failed rising_blocks falling_blocks bits scaled_log2 count_leading_zeros
computed_38 = refl

computed_50 : falling_by (bench_counts (bench 50)) 7 50 (upto (bench_watched (bench 50)) 50)
    ≡ Ok later_curve
unfolding falling_by ages upto valid bench_watched bench_failed rising_blocks falling_blocks bits scaled_log2 count_leading_zeros
computed_50 = refl

-- the last failure age of the bench, whenever it is stopped
last_here : (stop : ℕ) → valid (bench stop) ≡ true → 38 ≡ last_failure (bench_failed (bench stop))
unfolding last_failure
last_here stop ok = latest_is (bench_failed (bench stop)) last_tick 38 (omega arith) (record { past = λ t l. failed_valid (bench stop) ok t ∙ none t l; there = λ _. rw (failed_valid (bench stop) ok 38) (omega arith) })
  where
    none : (t : ℕ) → 38 < t → number_at (bench stop).ages t ≡ 0
    none t l = rw (ne_eqb 4 t (omega arith), ne_eqb 9 t (omega arith), ne_eqb 11 t (omega arith), ne_eqb 18 t (omega arith), ne_eqb 27 t (omega arith), ne_eqb 38 t (omega arith)) refl

-- the bound, by the time on test
bound_here : (confidence : Confidence) (stop : ℕ) → valid (bench stop) ≡ true → bound_answer confidence (bench stop) ≡ bound_by confidence 6 38 stop (upto (bench_watched (bench stop)) stop)
bound_here confidence stop ok =
    λ i. bound_by confidence (failures_are (bench stop) ok i) (sym (last_here stop ok) i) stop (bench_time (bench stop) ok (omega arith) i)

bound_95 : bound_by Percent95 6 38 38 (upto (bench_watched (bench 38)) 38) ≡ Ok 40591
unfolding upto valid bench_watched
bound_95 = refl

bound_90 : bound_by Percent90 6 38 38 (upto (bench_watched (bench 38)) 38) ≡ Ok 35809
unfolding upto valid bench_watched
bound_90 = refl

bound_50 : bound_by Percent95 6 38 50 (upto (bench_watched (bench 50)) 50) ≡ Err (refused 14)
bound_50 = refl

-- ---- studies

-- a U-shaped fit, by the oldest age and the total time on test
u_shaped_by : Counts → ℕ → ℕ → ℕ → Result Curve Refused
u_shaped_by c room o w =
    let xs = ages c.failed (o - 1) in
    let j = best_gap (score c.watched c.failed xs o) (length xs) in
    answered (fit_refusal (length xs) room room) (record {
      steps = steps c.watched c.failed xs o j;
      turning_gap = j;
      score = score c.watched c.failed xs o j;
      counted = total c.failed xs;
      set_aside = c.failed o;
      time_on_test = w;
    })

u_shaped_is : (c : Counts) (room : ℕ) → fitted c UShaped room ≡ u_shaped_by c room (oldest c.watched) (whole c.watched)
unfolding u_shaped_by
u_shaped_is c room = refl

-- places of bounded lives, of which none is watched after an age at which one is
module _ (ps : List PlainPlace) (bounded : AllByRecursion Bounded ps) (few : length ps ≤ most_failures) (o : ℕ) (is : Oldest (study_watched ps) o) where
  laws : Lawful (study_watched ps) (study_failed ps)
  laws = study_laws ps bounded few

  study_oldest : oldest (study_watched ps) ≡ o
  study_oldest = sym (oldest_is (study_watched ps) (study_failed ps) laws o is)

  study_time : whole (study_watched ps) ≡ upto (study_watched ps) o
  study_time = sym (whole_watched (study_watched ps) (study_failed ps) laws) ∙ ap (upto (study_watched ps)) study_oldest

  study_falling : (room : ℕ) → fitted (study_counts ps) Falling room ≡ falling_by (study_counts ps) room o (upto (study_watched ps) o)
  study_falling room = falling_is (study_counts ps) room ∙ ap₂ (falling_by (study_counts ps) room) study_oldest study_time

  study_u_shaped : (room : ℕ) → fitted (study_counts ps) UShaped room ≡ u_shaped_by (study_counts ps) room o (upto (study_watched ps) o)
  study_u_shaped room = u_shaped_is (study_counts ps) room ∙ ap₂ (u_shaped_by (study_counts ps) room) study_oldest study_time

-- a life that enters at 0 is not watched after its exit
gone : (t exit : ℕ) → exit < t → (ltb 0 t && leb t exit) ≡ false
gone t exit l = and_right (ltb 0 t) (leb t exit) (lt-leb t exit l)

one_bounded : AllByRecursion Bounded one
one_bounded = (omega arith, tt)

four_bounded : AllByRecursion Bounded four
four_bounded = (omega arith, (omega arith, (omega arith, (omega arith, tt))))

five_bounded : AllByRecursion Bounded five
five_bounded = (omega arith, (omega arith, (omega arith, (omega arith, (omega arith, tt)))))

five_oldest : Oldest (study_watched five) 8
unfolding study_watched
five_oldest = record {
  past = λ t l. rw (gone t 1 (omega arith), gone t 2 (omega arith), gone t 6 (omega arith), gone t 7 (omega arith), gone t 8 (omega arith)) refl;
  there = λ _. omega arith;
}

four_oldest : Oldest (study_watched four) 7
unfolding study_watched
four_oldest = record { past = λ t l. rw (gone t 1 (omega arith), gone t 2 (omega arith), gone t 6 (omega arith), gone t 7 (omega arith)) refl; there = λ _. omega arith }

one_oldest : Oldest (study_watched one) 1
unfolding study_watched
one_oldest = record { past = λ t l. rw (gone t 1 (omega arith)) refl; there = λ _. omega arith }

five_computed : u_shaped_by (study_counts five) 5 8 (upto (study_watched five) 8)
    ≡ Ok five_curve
unfolding u_shaped_by ages upto best_gap study_watched study_failed rising_blocks falling_blocks bits scaled_log2 count_leading_zeros
five_computed = refl

four_computed : falling_by (study_counts four) 5 7 (upto (study_watched four) 7)
    ≡ Ok four_falling_curve
unfolding falling_by ages upto study_watched study_failed rising_blocks falling_blocks bits scaled_log2 count_leading_zeros
four_computed = refl

four_turned : u_shaped_by (study_counts four) 4 7 (upto (study_watched four) 7)
    ≡ Ok four_u_shaped_curve
unfolding u_shaped_by ages upto best_gap study_watched study_failed rising_blocks falling_blocks bits scaled_log2 count_leading_zeros
four_turned = refl

one_computed : falling_by (study_counts one) 2 1 (upto (study_watched one) 1)
    ≡ Ok one_curve
unfolding falling_by ages upto study_watched study_failed rising_blocks falling_blocks bits scaled_log2 count_leading_zeros
one_computed = refl

one_refused : u_shaped_by (study_counts one) 2 1 (upto (study_watched one) 1) ≡ Err (refused 12)
unfolding u_shaped_by ages
one_refused = refl

-- ---- a fault

-- a rival of the U-shaped curve: the rates of its steps
abbrev rate : ℕ → ℕ → Fraction
rate failures exposure = record { numerator = failures; denominator = exposure }

abbrev falling_rates : List Fraction
falling_rates = rate 2 9 ∷ rate 2 9 ∷ []

abbrev rising_rates : List Fraction
rising_rates = rate 1 2 ∷ rate 1 1 ∷ []

five_is_eight : oldest (study_watched five) ≡ 8
five_is_eight = study_oldest five five_bounded (omega arith) 8 five_oldest

rival : Rival (study_counts five) UShaped
unfolding ages study_failed
rival = record {
  turning_gap = 3;
  allowed = rw five_is_eight (omega arith);
  left = falling_rates;
  trough = rate 0 1;
  right = rising_rates;
  each_left = refl;
  each_right = rw five_is_eight refl;
  denominators = (omega arith, (omega arith, (omega arith, (omega arith, (omega arith, tt)))));
  not_rising = (omega arith, (tt, tt));
  not_falling = (omega arith, (tt, tt));
}

-- its rated pieces and the counted failures, by the oldest age
rated_by : ℕ → List Rated × ℕ
rated_by o =
    let n = study_watched five in
    let f = study_failed five in
    let xs = ages f (o - 1) in
    (zip (left_pieces n f xs o 3) falling_rates ++ (trough_piece n f xs o 3, rate 0 1) ∷ zip (right_pieces n f xs o 3) rising_rates, total f xs)

abbrev piece : ℕ → ℕ → Piece
piece failures exposure = record { failures = failures; exposure = exposure }

rated_eight : rated_by 8 ≡ ((piece 1 5, rate 2 9) ∷ (piece 1 4, rate 2 9) ∷ (piece 0 12, rate 0 1) ∷ (piece 1 2, rate 1 2) ∷ (piece 1 1, rate 1 1) ∷ [], 4)
unfolding rated_by ages upto study_watched study_failed
rated_eight = refl

-- a larger product than that of the single step, and no more failures expected than counted
abbrev Beats : List Rated × ℕ → Type 0
Beats z = AtMost (expected z.0) (fraction.whole z.1) × Exceeds (rival_product z.0) (curve_product single_step.steps)

beats : Beats (rated_by (oldest (study_watched five)))
beats = subst Beats (sym (ap rated_by five_is_eight ∙ rated_eight)) (omega arith, omega arith)

has_fault : Fault (study_counts five) UShaped single_step
unfolding rival rated_by
has_fault = better rival refl beats.0 beats.1

-- ---- releases, archives and logarithms

growth_computed : growth_answer noted 3 ≡ Ok (record { steps = 2; score = neg_ℤ (pos 1531644) })
unfolding rising_blocks bits scaled_log2 count_leading_zeros
growth_computed = refl

growth_written : growth_memory noted old_steps ≡ growth_step 1 2 7 20 ∷ growth_step 4 4 9 10 ∷ growth_step 0 0 0 0 ∷ []
unfolding rising_blocks
growth_written = refl

pub cases : Cases
cases = record {
  logarithms = let v = log_values in (v.1, v.2, v.3);
  bench_falling = bench_fit (bench 38) valid_38 (omega arith) 7 ∙ computed_38;
  bench_bound_95 = bound_here Percent95 38 valid_38 ∙ bound_95;
  bench_bound_90 = bound_here Percent90 38 valid_38 ∙ bound_90;
  later_falling = bench_fit (bench 50) valid_50 (omega arith) 7 ∙ computed_50;
  later_bound = bound_here Percent95 50 valid_50 ∙ bound_50;
  five_u_shaped = study_u_shaped five five_bounded (omega arith) 8 five_oldest 5 ∙ five_computed;
  single_step_fault = has_fault;
  four_falling = study_falling four four_bounded (omega arith) 7 four_oldest 5 ∙ four_computed;
  four_u_shaped = study_u_shaped four four_bounded (omega arith) 7 four_oldest 4 ∙ four_turned;
  one_falling = study_falling one one_bounded (omega arith) 1 one_oldest 2 ∙ one_computed;
  one_u_shaped = study_u_shaped one one_bounded (omega arith) 1 one_oldest 2 ∙ one_refused;
  releases = growth_computed;
  release_steps = growth_written;
  empty_archive = refl;
}
