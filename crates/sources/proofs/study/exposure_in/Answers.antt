use Rattle.std.proofs.Common.{◌≡◌, rules, ◌∙◌}
use Rattle.std.specs.List.{sum_by}
use Rattle.std.proofs.iter.runs.Made.{chains}
use Rattle.lives.specs.Lives.{plain}
use Rattle.sources.specs.Studies.{study_watched, ticks_of}
use Rattle.sources.proofs.Lives.{lives_between}
use Rattle.sources.proofs.study.exposure_in.Goals as goal

pub returns : goal.returns
unfolding study_watched
returns c =
    let ps = c.args.places.now in
    let from = c.args.from.0 in
    let to = c.args.to.0 in
    let sum : c.sum.result ≡ sum_by (λ p. ticks_of (plain p) from to) ps = search (rules, chains) in
    sum ∙ lives_between ps from to
