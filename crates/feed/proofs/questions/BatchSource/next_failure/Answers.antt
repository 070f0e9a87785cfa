use Rattle.std.proofs.Common.{◌≡◌, is_lt, nat_cmp, rules}
use Rattle.std.specs.Bool.{then_some}
use Rattle.sources.proofs.Questions.{next_is}
use Rattle.feed.specs.BatchLaws.{batch_laws}
use Rattle.feed.proofs.Batches.{next_answer}
use Rattle.feed.proofs.questions.BatchSource.next_failure.Goals as goal

pub returns : goal.returns
returns c =
    let b = c.args.self.now in
    let x = c.args.above.0 in
    let told : c.then_some.result ≡ then_some (is_lt (nat_cmp x b.age.0)) b.age = search (rules) in
    next_is _ _ (batch_laws b) x c.then_some.result (next_answer b x c.then_some.result told)
