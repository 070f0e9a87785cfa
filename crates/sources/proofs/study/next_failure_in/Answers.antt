use Rattle.std.proofs.Common.{◌≡◌, None, rules}
use Rattle.std.specs.List.{fold}
use Rattle.std.proofs.lemmas.Iterator.{YieldsList-from_slice, YieldsList-from_map}
use Rattle.std.proofs.lemmas.Iterator.Consumers.{fold_from_yields_List}
use borrow.Author.Tests.{tests}
use Rattle.lives.specs.Lives.{plain}
use Rattle.sources.specs.Questions.{sooner}
use Rattle.sources.specs.Studies.{study_failed, failure_above}
use Rattle.sources.proofs.Lives.{failures_above, next_lives}
use Rattle.sources.proofs.study.next_failure_in.Goals as goal

pub returns : goal.returns
unfolding study_failed
returns c =
    let ps = c.args.places.now in
    let x = c.args.above.0 in
    let least : c.fold.result ≡ fold sooner None (failures_above x ps) = fold_from_yields_List _ sooner None c.fold.result c.fold.ensures.ran
    (YieldsList-from_map _ (λ p. failure_above x (plain p)) (YieldsList-from_slice ps (cc)) c.map.ensures.closure (λ y r q k. search (rules, tests))) (λ a y b q k. search (rules, tests)) in
    rw least (next_lives x ps)
