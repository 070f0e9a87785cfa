use Rattle.sources.proofs.Questions.{oldest_is}
use Rattle.feed.specs.Batches.{plain_batch}
use Rattle.feed.specs.BatchLaws.{batch_laws, batch_bounds}
use Rattle.feed.proofs.Batches.{oldest_there}
use Rattle.feed.proofs.questions.BatchSource.oldest_age.Goals as goal

pub returns : goal.returns
returns c =
    let b = c.args.self.now in
    oldest_is _ _ (batch_laws b) b.age.0 (oldest_there (plain_batch b) (batch_bounds b).some (batch_bounds b).runs)
