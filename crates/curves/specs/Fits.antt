-- What a fit answers, and what the memory lent to it holds afterwards.
use Rattle.std.specs.Prelude.{ℕ, suc, min, List, ◌++◌, map, length, take, drop, Option, Result}
use Rattle.units.specs.Refusals.{Refused}
use Rattle.pooling.specs.Pooling.{answered, unless_refused, left_to_builder, written}
use Rattle.sources.specs.Counts.{Counts}
use Rattle.curves.specs.Curves as plain
use Rattle.curves.specs.Curves.{Curve, counted_ages, curve, fit_refusal}
use Rattle.curves.specs.declared.fits.Fit.{Fit}
use Rattle.curves.specs.declared.fits.Work.{Work}
use Rattle.curves.specs.declared.shapes.Shape.{Shape}
use Rattle.curves.specs.declared.step.Step.{Step}

-- a step as memory holds it, and back
abbrev pub step_made : plain.Step → Step
step_made s = record { from = record { 0 = s.from }; to = record { 0 = s.to }; failures = s.failures; exposure = record { 0 = s.exposure } }

abbrev pub plain_step : Step → plain.Step
plain_step s = record { from = s.from.0; to = s.to.0; failures = s.failures; exposure = s.exposure.0 }

-- a fit answers the number of steps of the curve, and the rest of it but the steps
abbrev pub fit_made : Curve → Fit
fit_made c = record {
  steps = length c.steps;
  turning_gap = c.turning_gap;
  score = c.score;
  counted = c.counted;
  set_aside = c.set_aside;
  time_on_test = record { 0 = c.time_on_test };
}

-- the curve that an answer and the step memory show together
abbrev pub shown : Fit → List Step → Curve
shown a after = record {
  steps = map plain_step (take a.steps after);
  turning_gap = a.turning_gap;
  score = a.score;
  counted = a.counted;
  set_aside = a.set_aside;
  time_on_test = a.time_on_test.0;
}

-- the work places lent: the shortest of the three rows
abbrev pub work_places : Work → ℕ
work_places w = min (length w.gaps.now) (min (length w.blocks.now) (length w.scores.now))

-- Of counts, a shape, and the number of steps and work places lent:
module _ (c : Counts) (shape : Shape) (steps works : ℕ) where
  abbrev pub due : Option Refused
  due = fit_refusal (length (counted_ages c shape)) steps works

  -- the fit of the curve that the rules give, or 12 or 13
  abbrev pub fit_result : Result Fit Refused
  fit_result = answered due (fit_made (curve c shape))

  -- the steps stand first in the step memory, and the rest of it stays
  abbrev pub fit_steps : List Step → List Step
  fit_steps before = unless_refused due before (written (map step_made (curve c shape).steps) before)

  -- of k counted ages, the first k + 1 work places of a row are left to the builder, and the rest stays
  abbrev pub fit_work : {X : Type 0} → List X → List X → List X
  fit_work before after =
      unless_refused due before (left_to_builder 0 (suc (length (counted_ages c shape))) after ++ drop (suc (length (counted_ages c shape))) before)
