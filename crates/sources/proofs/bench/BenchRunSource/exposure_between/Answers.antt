use Rattle.std.proofs.Common.{◌≡◌, ◌+◌, ◌-◌, ◌*◌, ◌≤◌, min, length, rules, ap, arith}
use Rattle.std.specs.List.{sum_by}
use Rattle.std.proofs.iter.runs.Made.{chains}
use Rattle.std.proofs.lemmas.List.{length-map}
use Rattle.std.proofs.lemmas.Iterator.{YieldsList-from_slice, YieldsList-from_map}
use Rattle.std.proofs.lemmas.Iterator.Consumers.{fits_by_from_yields_list}
use borrow.Author.Tests.{tests}
use Rattle.sources.specs.Counts.{most_in_all}
use Rattle.units.specs.Hours.{age_ticks}
use Rattle.sources.specs.Tallies.{upto_void}
use Rattle.sources.specs.BenchLaws.{valid_means, watched_void}
use Rattle.sources.proofs.Benches.{exposure_is, exposure_most}
use Rattle.sources.proofs.bench.BenchRunSource.exposure_between.Goals as goal

pub returns-in_default : goal.returns-in_default
returns-in_default c =
    let v = upto_void _ (watched_void _ c.in_default.ensures) in
    omega (arith, v c.args.to.0, v c.args.from.0)

pub overflow_cast-unfailed : goal.overflow_cast-unfailed
overflow_cast-unfailed c = let v = valid_means _ c.in-Some.ensures.0 in omega (arith, v.fits, v.few, ap length c.in-Some.ensures.1, length-map c.args.self.now.ages.now age_ticks)

pub overflow_sub-unfailed : goal.overflow_sub-unfailed
overflow_sub-unfailed c = let v = valid_means _ c.in-Some.ensures.0 in omega (arith, v.fits, ap length c.in-Some.ensures.1, length-map c.args.self.now.ages.now age_ticks)

pub sum-failed-requires-clause-fits : goal.sum-failed-requires-clause-fits
sum-failed-requires-clause-fits c =
    let ages = c.in-Some.ages.now in
    let high = c.min-high.result in
    let low = c.min-low.result in
    fits_by_from_yields_list (λ a. min a.0 high.0 - min a.0 low.0) ages c.map.result _
    (YieldsList-from_map _ (λ a. min a.0 high.0 - min a.0 low.0) (YieldsList-from_slice ages (cc)) c.map.ensures.closure (λ x r q k. search (rules, tests)))
    (omega (arith, exposure_most c.args.self.now ages c.in-Some.ensures.1 c.in-Some.ensures.0 c.args.from c.args.to low high c.min-high.ensures c.min-low.ensures))

-- what the failed units ran
failed : (c : goal.After-sum-failed) → c.sum-failed.result ≡ sum_by (λ a. min a.0 c.min-high.result.0 - min a.0 c.min-low.result.0) c.in-Some.ages.now
failed c = search (rules, chains)

most : (c : goal.After-sum-failed) → (c.args.self.now.units - length c.in-Some.ages.now) * (c.min-high.result.0 - c.min-low.result.0) + c.sum-failed.result ≤ most_in_all
most c = omega (arith, failed c, exposure_most c.args.self.now c.in-Some.ages.now c.in-Some.ensures.1 c.in-Some.ensures.0 c.args.from c.args.to c.min-low.result c.min-high.result c.min-high.ensures c.min-low.ensures)

pub overflow_mul-result : goal.overflow_mul-result
overflow_mul-result c = omega (arith, most c)

pub overflow_add-result : goal.overflow_add-result
overflow_add-result c = omega (arith, most c)

pub returns : goal.returns
returns c = omega (arith, failed c, exposure_is c.args.self.now c.in-Some.ages.now c.in-Some.ensures.1 c.in-Some.ensures.0 c.args.from c.args.to c.min-low.result c.min-high.result c.min-high.ensures c.min-low.ensures)
