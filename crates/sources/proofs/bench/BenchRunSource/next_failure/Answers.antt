use Rattle.std.proofs.Common.{◌<◌, ◌≤◌, None, rules, sym, ◌∙◌}
use Rattle.std.proofs.lemmas.Iterator.{YieldsList-from_slice, first_from_find}
use Rattle.std.proofs.lemmas.Iterator.Consumers.{YieldsList-from_copied}
use borrow.Author.Tests.{tests}
use Rattle.sources.specs.Benches.{plain_bench}
use Rattle.sources.specs.BenchLaws.{valid_means, failed_valid, failed_void, bench_laws}
use Rattle.sources.proofs.Questions.{next_is, next_same}
use Rattle.sources.proofs.Benches.{next_found}
use Rattle.sources.proofs.bench.BenchRunSource.next_failure.Goals as goal

pub returns-in_err-valid_ages : goal.returns-in_err-valid_ages
returns-in_err-valid_ages c = c.from_residual.ensures ∙ next_is _ _ (bench_laws (plain_bench c.args.self.now)) c.args.above.0 None (λ t _. failed_void _ c.in_err-valid_ages.ensures t)

pub returns : goal.returns
returns c =
    let b = plain_bench c.args.self.now in
    let xs = c.args.self.now.ages.now in
    let x = c.args.above.0 in
    let valid = c.in_ok-valid_ages.ensures.0 in
    let found = next_found 1 b.stop x xs c.find.result (valid_means b valid).order
    (first_from_find _ _ c.find.result (λ a. x < a.0) (λ a. a.0 ≤ x) c.find.ensures.ran (YieldsList-from_copied (YieldsList-from_slice xs (cc c.in_ok-valid_ages.ensures.1))) (λ y q k. search (rules, tests)) (λ y q k. search (rules, tests))) in
    next_is _ _ (bench_laws b) x c.find.result (next_same _ _ (λ t. sym (failed_valid b valid t)) x c.find.result found)
