-- Worked cases: what the definitions of the rules give for small data.
use Rattle.std.specs.Prelude.{◌≡◌, ℕ, List, [], ◌∷◌, replicate, pos, neg_ℤ, Ok, Err, Result}
use Rattle.units.specs.Refusals.{Refused, refused}
use Rattle.arith.specs.Log.{S}
use Rattle.pooling.specs.Ratios.{Ratio}
use Rattle.releases.specs.Growths.{growth_answer, growth_memory}
use Rattle.releases.specs.Sheets.{empty_rows, noted_rows}
use Rattle.releases.specs.declared.steps.GrowthStep.{GrowthStep}
use Rattle.lives.specs.Archive.{archive_of}
use Rattle.lives.specs.Lives.{PlainPlace, judge, blank_place}
use Rattle.lives.specs.Studies.{Held, opened, enter_after}
use Rattle.lives.specs.declared.types.UncheckedLife.{UncheckedLife}
use Rattle.sources.specs.Benches.{PlainBench, bench_counts}
use Rattle.sources.specs.Bounds.{bound_answer}
use Rattle.sources.specs.Counts.{Counts}
use Rattle.sources.specs.Studies.{study_counts}
use Rattle.sources.specs.declared.bound.Confidence.TheVariants.{Percent95, Percent90}
use Rattle.curves.specs.Curves.{Step, Curve, fit_answer}
use Rattle.curves.specs.Faults.{Fault}
use Rattle.curves.specs.declared.shapes.Shape.{Shape}
use Rattle.curves.specs.declared.shapes.Shape.TheVariants.{Falling, UShaped}

-- a fit with room for so many steps and as many work places
abbrev pub fitted : Counts → Shape → ℕ → Result Curve Refused
fitted c shape room = fit_answer c shape room room

-- a step from one age to another, with its failures and exposure
abbrev pub step : ℕ → ℕ → ℕ → ℕ → Step
step from to failures exposure = record { from = from; to = to; failures = failures; exposure = exposure }

-- ten units on test, of which six fail
abbrev pub bench : ℕ → PlainBench
bench stop = record { units = 10; ages = 4 ∷ 9 ∷ 11 ∷ 18 ∷ 27 ∷ 38 ∷ []; stop = stop }

-- a life that enters at 0
abbrev pub life : ℕ → ℕ → ℕ → UncheckedLife
life serial exit status = record { serial = serial; entry = 0; exit = exit; status = status }

-- lives entered one after another
abbrev pub entered : Held → List UncheckedLife → Held
entered h [] = h
entered h (u ∷ us) = entered (enter_after h (judge u)) us

-- a study opened on memory for five lives
abbrev pub study : List UncheckedLife → List PlainPlace
study lives = (entered (opened (replicate 5 blank_place)) lives).places

-- four fail, the last is withdrawn
abbrev pub five : List PlainPlace
five = study (life 1001 1 0 ∷ life 1002 2 0 ∷ life 1003 6 0 ∷ life 1004 7 0 ∷ life 1005 8 1 ∷ [])

-- without the last
abbrev pub four : List PlainPlace
four = study (life 1001 1 0 ∷ life 1002 2 0 ∷ life 1003 6 0 ∷ life 1004 7 0 ∷ [])

-- one life, failed at 1
abbrev pub one : List PlainPlace
one = study (life 1001 1 0 ∷ [])

-- the falling curve of the bench that is stopped at its last failure: the trough is empty and not written
abbrev pub bench_curve : Curve
bench_curve = record {
  steps = step 0 11 3 101 ∷ step 11 18 1 49 ∷ step 18 27 1 54 ∷ step 27 38 1 55 ∷ [];
  turning_gap = 7;
  score = neg_ℤ (pos 2121444);
  counted = 6;
  set_aside = 0;
  time_on_test = 259;
}

-- stopped later it has a further step, the trough
abbrev pub later_curve : Curve
later_curve = record {
  steps = step 0 11 3 101 ∷ step 11 18 1 49 ∷ step 18 27 1 54 ∷ step 27 38 1 55 ∷ step 38 50 0 48 ∷ [];
  turning_gap = 7;
  score = neg_ℤ (pos 2121444);
  counted = 6;
  set_aside = 0;
  time_on_test = 307;
}

-- the U-shaped curve of the five lives
abbrev pub five_curve : Curve
five_curve = record {
  steps = step 0 2 2 9 ∷ step 2 6 0 12 ∷ step 6 7 1 2 ∷ step 7 8 1 1 ∷ [];
  turning_gap = 3;
  score = neg_ℤ (pos 349952);
  counted = 4;
  set_aside = 0;
  time_on_test = 24;
}

-- of the four lives: a falling curve keeps the failure at the oldest age
abbrev pub four_falling_curve : Curve
four_falling_curve = record {
  steps = step 0 2 2 7 ∷ step 2 7 2 9 ∷ [];
  turning_gap = 5;
  score = neg_ℤ (pos 521308);
  counted = 4;
  set_aside = 0;
  time_on_test = 16;
}

-- a U-shaped curve sets it aside
abbrev pub four_u_shaped_curve : Curve
four_u_shaped_curve = record {
  steps = step 0 2 2 7 ∷ step 2 6 0 8 ∷ step 6 7 1 1 ∷ [];
  turning_gap = 3;
  score = neg_ℤ (pos 236892);
  counted = 3;
  set_aside = 1;
  time_on_test = 16;
}

-- the falling curve of the one life
abbrev pub one_curve : Curve
one_curve = record {
  steps = step 0 1 1 1 ∷ [];
  turning_gap = 2;
  score = pos 0;
  counted = 1;
  set_aside = 0;
  time_on_test = 1;
}

-- an answer with a single step for all ages
abbrev pub single_step : Curve
single_step = record { steps = step 0 8 4 24 ∷ []; turning_gap = 3; score = pos 0; counted = 4; set_aside = 0; time_on_test = 24 }

-- three notes on an empty release sheet
abbrev pub noted : List Ratio
noted = noted_rows (noted_rows (noted_rows empty_rows 1 4 10) 2 3 10) 4 9 10

-- a step of growth from one release to another, with its successes and trials
abbrev pub growth_step : ℕ → ℕ → ℕ → ℕ → GrowthStep
growth_step first last successes trials = record { first = first; last = last; successes = successes; trials = trials }

-- step memory with something in it
abbrev pub old_steps : List GrowthStep
old_steps = replicate 3 (growth_step 0 0 0 0)

-- Room is for k + 1 steps and work places, the least that serves.
pub record Cases : Type 0 where
  pub logarithms : (S 1 ≡ 0) × (S 2 ≡ 65536) × (S 3 ≡ 103872)
  pub bench_falling : fitted (bench_counts (bench 38)) Falling 7 ≡ Ok bench_curve
  pub bench_bound_95 : bound_answer Percent95 (bench 38) ≡ Ok 40591
  pub bench_bound_90 : bound_answer Percent90 (bench 38) ≡ Ok 35809
  pub later_falling : fitted (bench_counts (bench 50)) Falling 7 ≡ Ok later_curve
  pub later_bound : bound_answer Percent95 (bench 50) ≡ Err (refused 14)
  pub five_u_shaped : fitted (study_counts five) UShaped 5 ≡ Ok five_curve
  -- a single pooled step in its place has a fault: the rates of the four steps make a better rival
  pub single_step_fault : Fault (study_counts five) UShaped single_step
  pub four_falling : fitted (study_counts four) Falling 5 ≡ Ok four_falling_curve
  pub four_u_shaped : fitted (study_counts four) UShaped 4 ≡ Ok four_u_shaped_curve
  pub one_falling : fitted (study_counts one) Falling 2 ≡ Ok one_curve
  pub one_u_shaped : fitted (study_counts one) UShaped 2 ≡ Err (refused 12)
  pub releases : growth_answer noted 3 ≡ Ok (record { steps = 2; score = neg_ℤ (pos 1531644) })
  pub release_steps : growth_memory noted old_steps ≡ growth_step 1 2 7 20 ∷ growth_step 4 4 9 10 ∷ growth_step 0 0 0 0 ∷ []
  -- the words 10000001, 20000000 and 20000022 in hexadecimal
  pub empty_archive : archive_of (study []) ≡ 268435457 ∷ 536870912 ∷ 536870946 ∷ []
