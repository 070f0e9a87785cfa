use Rattle.std.proofs.Common.{◌≡◌, ℕ, ◌+◌, List, map, length, take, None, Ok, Option, sum_by, sym, ap, ◌∙◌, arith, w64, SFits, rules}
use Rattle.std.proofs.lemmas.List.{length-map}
use Rattle.std.proofs.lemmas.Int.{to_z-of_z}
use Rattle.units.specs.Refusals.{Refused}
use Rattle.pooling.specs.Pooling.{answered, unless_refused, written}
use Rattle.pooling.proofs.Answered.{accepted}
use Rattle.sources.specs.Ages.{ages, oldest}
use Rattle.sources.specs.Counts.{Counts}
use Rattle.sources.specs.declared.gaps.Gap.{Gap}
use Rattle.curves.specs.Curves.{counted_ages, counted_failures, curve, fit_refusal, last_counted}
use Rattle.curves.specs.Fits.{fit_made, step_made, work_places, due}
use Rattle.curves.specs.Tables.{table}
use Rattle.curves.specs.declared.step.Step.{Step}
use Rattle.curves.proofs.Fitted.{Given, given, all_light, row_kept, faultless}
use Rattle.curves.proofs.Laid.{drop_later}
use Rattle.curves.proofs.Listed.{ages_total}
use Rattle.curves.proofs.Tabled.{table_failures}
use Rattle.curves.proofs.fits.fit_curve.Given as over
use Rattle.curves.proofs.fits.fit_curve.Goals as goal
use Rattle.curves.proofs.fits.fit_curve.Goals.{In_ok-count, After-turn_of-turn}

abbrev meant : (g : over.Over) → g.row.S.Denot → Counts
meant g s = g.S.Source.counts s

-- the table was listed: no refusal was due, and k is the number of counted ages
record Listed (g : over.Over) (c : In_ok-count g) : Type 0 where
  none : due (meant g c.args.source.now) c.args.shape (length c.args.steps.now) (work_places c.args.work) ≡ None
  number : c.in_ok-count.count ≡ length (counted_ages (meant g c.args.source.now) c.args.shape)
  rows : take (c.in_ok-count.count + 1) c.list_table.new.gaps
      ≡ table (meant g c.args.source.now).watched (meant g c.args.source.now).failed (counted_ages (meant g c.args.source.now) c.args.shape) (oldest (meant g c.args.source.now).watched)

listed : (g : over.Over) (c : In_ok-count g) → Listed g c
listed g c =
    let s = meant g c.args.source.now in
    let last = c.last_counted_age-last.ensures in
    let count = λ (t : ℕ). length (ages s.failed t) in
    let made = accepted (fit_refusal (count c.last_counted_age-last.result.0) (length c.args.steps.now) c.places-works.result) _ _ c.in_ok-count.ensures.answer in
    record {
      none = (λ i. fit_refusal (count (sym last i)) (length c.args.steps.now) (sym c.places-works.ensures i)) ∙ made.0;
      number = made.1 ∙ ap count last;
      rows = c.in_ok-count.ensures.table ∙ ap (λ (t : ℕ). table s.watched s.failed (ages s.failed t) (oldest s.watched)) last;
    }

pub turn_of-turn-requires-clause-light : goal.turn_of-turn-requires-clause-light
turn_of-turn-requires-clause-light g c =
    let l = listed g (goal.at.turn_of-turn-requires-clause-light g c).In_ok-count in
    all_light (meant g c.args.source.now) c.args.shape (g.S.Source.laws c.args.source.now) c.list_table.new.gaps c.in_ok-count.count l.number l.rows

-- what the turning gap gives
turned : (g : over.Over) (c : After-turn_of-turn g) → let s = meant g c.args.source.now in c.in_ok-count.count ≡ length (counted_ages s c.args.shape)
    → take (c.in_ok-count.count + 1) c.list_table.new.gaps ≡ table s.watched s.failed (counted_ages s c.args.shape) (oldest s.watched)
    → Given s c.args.shape (g.S.Source.laws c.args.source.now) c.list_table.new.gaps c.in_ok-count.count c.turn_of-turn.result
turned g c e l = given (meant g c.args.source.now) c.args.shape (g.S.Source.laws c.args.source.now) c.list_table.new.gaps c.in_ok-count.count c.turn_of-turn.result e l c.turn_of-turn.ensures.turn

pub invariant_of-split : goal.invariant_of-split
invariant_of-split g c =
    let l = listed g (goal.at.invariant_of-split g c).In_ok-count in
    let t = turned g (goal.at.invariant_of-split g c).After-turn_of-turn l.number l.rows in
    record { within = t.within; light = t.light }

-- the failures in the table are those at the counted ages
failures : (g : over.Over) (c : In_ok-count g) → sum_by (λ (r : Gap). r.failures) (take c.in_ok-count.count c.list_table.new.gaps) ≡ counted_failures (meant g c.args.source.now) c.args.shape
failures g c =
    let s = meant g c.args.source.now in
    let l = listed g c in
    table_failures s.watched s.failed (oldest s.watched) c.in_ok-count.count (counted_ages s c.args.shape) c.list_table.new.gaps l.number l.rows

pub failures-requires : goal.failures-requires
failures-requires g c =
    let s = meant g c.args.source.now in
    let last = last_counted s c.args.shape in
    omega (arith, failures g (goal.at.failures-requires g c).In_ok-count, ages_total s.failed last, (g.S.Source.laws c.args.source.now).few last)

pub returns : goal.returns
returns g c =
    let p = (goal.at.returns g c).In_ok-count in
    let l = listed g p in
    let s = meant g c.args.source.now in
    let shape = c.args.shape in
    let k = c.in_ok-count.count in
    let before = c.args.steps.now in
    let works = work_places c.args.work in
    let t = turned g (goal.at.returns g c).After-turn_of-turn l.number l.rows in
    let wrote = c.write-curve.ensures in
    let fits : SFits w64 c.write-curve.result.score = search rules in
    let steps = wrote.count ∙ ap length t.steps ∙ length-map (curve s shape).steps step_made in
    let score = to_z-of_z w64 c.write-curve.result.score fits ∙ wrote.score ∙ t.score in
    let total = c.failures.ensures ∙ failures g p in
    let fit : _ ≡ fit_made (curve s shape) = λ i. record { steps = steps i; turning_gap = t.gap i; score = score i; counted = total i; set_aside = c.failures_aside.ensures i; time_on_test = record { 0 = c.total_time_on_test.ensures i } } in
    let memory = wrote.steps ∙ ap (λ (ss : List Step). written ss before) t.steps in
    record {
      answer = ap Ok fit ∙ ap (λ (q : Option Refused). answered q (fit_made (curve s shape))) (sym l.none);
      steps = memory ∙ ap (λ (q : Option Refused). unless_refused q before (written (map step_made (curve s shape).steps) before)) (sym l.none);
      gaps = row_kept s shape (length before) works k c.args.work.gaps.now c.list_table.new.gaps l.none l.number c.in_ok-count.ensures.rest;
      blocks = row_kept s shape (length before) works k c.args.work.blocks.now c.write-curve.new.blocks l.none l.number (drop_later k (k + 1) _ _ (omega arith) (wrote.rest ∙ c.turn_of-turn.ensures.rest.1));
      scores = row_kept s shape (length before) works k c.args.work.scores.now c.turn_of-turn.new.scores l.none l.number c.turn_of-turn.ensures.rest.0;
      faultless = faultless s shape (g.S.Source.laws c.args.source.now) _ before _ fit memory;
    }
