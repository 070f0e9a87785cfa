use Rattle.std.proofs.Common.{◌≡◌, cond, rules, ◌∙◌}
use Rattle.std.specs.List.{sum_by}
use Rattle.std.proofs.iter.runs.Made.{chains}
use Rattle.lives.specs.Lives.{plain}
use Rattle.sources.specs.Studies.{study_failed, failed_at}
use Rattle.sources.proofs.Lives.{count_all}
use Rattle.sources.proofs.study.failures_in.Goals as goal

pub returns : goal.returns
unfolding study_failed
returns c =
    let ps = c.args.places.now in
    let t = c.args.age.0 in
    let number : c.sum.result ≡ sum_by (λ p. cond (failed_at t (plain p)) 1 0) ps = search (rules, chains) in
    number ∙ count_all (failed_at t) ps
