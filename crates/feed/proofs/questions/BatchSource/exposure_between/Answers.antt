use Rattle.std.proofs.Common.{◌≡◌, min, arith}
use Rattle.std.proofs.lemmas.Bool.Decides.{nat_tests}
use Rattle.feed.specs.Batches.{plain_batch}
use Rattle.feed.proofs.Batches.{batch_between}
use Rattle.feed.proofs.questions.BatchSource.exposure_between.Goals as goal

pub returns : goal.returns
returns c =
    let b = c.args.self.now in
    let from = c.args.from.0 in
    let to = c.args.to.0 in
    let high = c.min-high.result.0 in
    let low = c.min-low.result.0 in
    let top : high ≡ min to b.age.0 = grind (arith, nat_tests, c.min-high.ensures) in
    let base : low ≡ min from high = grind (arith, nat_tests, c.min-low.ensures) in
    batch_between (plain_batch b) from to high low top base
