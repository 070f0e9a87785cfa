use Rattle.std.proofs.Common.{◌≡◌, eqb, rules, sym, ◌∙◌, arith}
use Rattle.std.specs.List.{count_by}
use Rattle.std.proofs.iter.runs.Made.{chains}
use Rattle.std.proofs.lemmas.List.{length-map}
use Rattle.std.proofs.lemmas.List.Sums.{count_by-le-length}
use Rattle.units.specs.Hours.{age_ticks}
use Rattle.sources.specs.Benches.{plain_bench}
use Rattle.sources.specs.BenchLaws.{valid_means, failed_valid, failed_void}
use Rattle.sources.proofs.Benches.{number_by}
use Rattle.sources.proofs.bench.BenchRunSource.failures_at.Goals as goal

pub returns-in_default : goal.returns-in_default
returns-in_default c = sym (failed_void _ c.in_default.ensures c.args.age.0)

counted : (c : goal.After-count) → c.count.result ≡ count_by (λ a. eqb a.0 c.args.age.0) c.args.self.now.ages.now
counted c = search (rules, chains)

pub overflow_cast-result : goal.overflow_cast-result
overflow_cast-result c =
    let xs = c.args.self.now.ages.now in
    let v = valid_means _ c.in-Some.ensures.0 in
    omega (arith, counted c, count_by-le-length (λ a. eqb a.0 c.args.age.0) xs, v.fits, v.few, length-map xs age_ticks)

pub returns : goal.returns
returns c = counted c ∙ number_by c.args.self.now.ages.now c.args.age.0 ∙ sym (failed_valid (plain_bench c.args.self.now) c.in-Some.ensures.0 c.args.age.0)
