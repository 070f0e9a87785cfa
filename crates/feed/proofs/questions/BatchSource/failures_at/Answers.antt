use Rattle.std.proofs.Common.{rules}
use Rattle.feed.specs.Batches.{batch_failed}
use Rattle.feed.proofs.questions.BatchSource.failures_at.Goals as goal

pub returns-then-eq : goal.returns-then-eq
unfolding batch_failed
returns-then-eq c = search (rules)

pub returns-else-eq : goal.returns-else-eq
unfolding batch_failed
returns-else-eq c = search (rules)
