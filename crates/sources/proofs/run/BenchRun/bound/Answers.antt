use Rattle.std.proofs.Common.{sym, arith}
use Rattle.std.proofs.lemmas.Result.{err_from_is_err_and}
use Rattle.sources.proofs.Benches.{last_none}
use Rattle.sources.proofs.Bounds.{bound_void, bound_none, bound_elsewhere, bound_refused, bound_is, bound_least, watched_all}
use Rattle.sources.proofs.run.BenchRun.bound.Goals as goal

pub returns-in_default-clause-answer : goal.returns-in_default-clause-answer
returns-in_default-clause-answer c = sym (bound_void c.args.confidence c.args.self.now c.in_default.ensures)

pub returns-in_default-last-clause-answer : goal.returns-in_default-last-clause-answer
returns-in_default-last-clause-answer c = sym (bound_none c.args.confidence c.args.self.now c.in-Some.ages.now c.in-Some.ensures.0 c.in-Some.ensures.1 (last_none c.in-Some.ages.now c.in_default-last.ensures.value))

pub returns-then-ne-clause-answer : goal.returns-then-ne-clause-answer
returns-then-ne-clause-answer c =
    sym (bound_elsewhere c.args.confidence c.args.self.now c.in-Some.ages.now c.in-Some.ensures.0 c.in-Some.ensures.1 c.in-Some-last.last.now c.in-Some-last.ensures.value c.if-ne.ensures)

pub returns-in_err-percentile-clause-answer : goal.returns-in_err-percentile-clause-answer
returns-in_err-percentile-clause-answer c =
    let p = err_from_is_err_and c.from_residual.result c.from_residual.ensures.1 in
    rw (p.1, p.2) (bound_refused c.args.confidence c.args.self.now c.in-Some.ages.now c.in-Some.ensures.0 c.in-Some.ensures.1 c.in-Some-last.last.now c.in-Some-last.ensures.value c.if-ne.ensures _ c.in_err-percentile.ensures)

pub per_million-requires : goal.per_million-requires
per_million-requires c =
    omega (arith, c.total_time_on_test.ensures, watched_all c.args.confidence c.args.self.now c.in-Some.ages.now c.in-Some.ensures.0 c.in-Some.ensures.1 c.in-Some-last.last.now c.in-Some-last.ensures.value)

pub returns-clause-answer : goal.returns-clause-answer
returns-clause-answer c =
    bound_is c.args.confidence c.args.self.now c.in-Some.ages.now c.in-Some.ensures.0 c.in-Some.ensures.1 c.in-Some-last.last.now c.in-Some-last.ensures.value c.if-ne.ensures _ _ _ c.in_ok-percentile.ensures c.total_time_on_test.ensures c.per_million.ensures

pub returns-clause-least : goal.returns-clause-least
returns-clause-least c =
    bound_least c.args.confidence c.args.self.now c.in-Some.ages.now c.in-Some.ensures.0 c.in-Some.ensures.1 c.in-Some-last.last.now c.in-Some-last.ensures.value _ _ _ c.in_ok-percentile.ensures c.total_time_on_test.ensures c.per_million.ensures
