-- The number that stands for a fit, and that its parts are small.
use Rattle.std.proofs.Common.{◌≡◌, ℕ, ◌≤◌, Bool, cond, eqb, ltb, List, map, length, drop, Some, None, Ok, Option, Result, unwrap_or, sym, ap, ◌∙◌, arith}
use Rattle.std.proofs.lemmas.Bool.{le-ltb}
use Rattle.std.proofs.lemmas.List.{length-append, length-map}
use Rattle.units.specs.Refusals.{Refused}
use Rattle.pooling.specs.Pooling.{unless_refused, written}
use Rattle.pooling.proofs.Answered.{accepted}
use Rattle.sources.specs.Counts.{Counts, Lawful}
use Rattle.sources.proofs.Ages.{ages_few}
use Rattle.curves.specs.Curves.{counted_ages, curve, last_counted, score_of}
use Rattle.curves.specs.Fits.{due, fit_made, fit_result, fit_steps, step_made}
use Rattle.curves.specs.declared.fits.Fit.{Fit}
use Rattle.curves.specs.declared.shapes.Shape.TheVariants.{UShaped}
use Rattle.curves.specs.declared.step.Step.{Step}
use Rattle.curves.proofs.Best.{best_allowed}
use Rattle.exports.proofs.Repeated.{last_or_zero, or_false}
use Rattle.exports.specs.Codes.{code_after, fit_code, most_ages, most_gaps, ushaped_code}

-- with room for the most gaps, a fit gives the number
pub coded : (c : Counts) {r : Result Fit Refused} (steps works : ℕ) → r ≡ fit_result c UShaped steps works → steps ≡ most_gaps → works ≡ most_gaps → fit_code r ≡ ushaped_code c
unfolding ushaped_code
coded c steps works e s w = ap fit_code (e ∙ (λ i. fit_result c UShaped (s i) (w i)))

module _ (c : Counts) (a : Fit) (works : ℕ) where
  -- at most 1,024 ages are counted, so the turning gap is 1,025 at most
  pub gap_small : (steps : ℕ) → Lawful c.watched c.failed → Ok a ≡ fit_result c UShaped steps works → a.turning_gap ≤ most_gaps
  gap_small steps laws e =
      let made = accepted (due c UShaped steps works) (fit_made (curve c UShaped)) a e in
      let last = last_counted c UShaped in
      omega (arith, ap (λ (f : Fit). f.turning_gap) made.1, (best_allowed (score_of c UShaped) (length (counted_ages c UShaped))).1, ages_few c.failed last, laws.few last)

  -- the steps are written into their memory, so they are no more than it has places
  pub steps_small : (before after : List Step) → Ok a ≡ fit_result c UShaped (length before) works → after ≡ fit_steps c UShaped (length before) works before → length after ≡ length before → a.steps ≤ length before
  steps_small before after e memory same =
      let made = accepted (due c UShaped (length before) works) (fit_made (curve c UShaped)) a e in
      let ys = map step_made (curve c UShaped).steps in
      let wrote : after ≡ written ys before = memory ∙ ap (λ (q : Option Refused). unless_refused q before (written ys before)) made.0 in
      omega (arith, ap (λ (f : Fit). f.steps) made.1, length-map (curve c UShaped).steps step_made, length-append ys (drop (length ys) before), ap length wrote, same)

-- the number after so many fits, of which none answers anything for no time
pub repeated_code : (n times : ℕ) (c : Counts) (last : Option ℕ) → n ≤ most_ages → last ≡ cond (eqb times 0) None (Some (ushaped_code c)) → unwrap_or last 0 ≡ code_after n times c
repeated_code n times c last few e = last_or_zero times (ushaped_code c) last e ∙ ap (λ (t : Bool). cond t 0 (ushaped_code c)) (sym (or_false (eqb times 0) (ltb most_ages n) (le-ltb most_ages n few)))
