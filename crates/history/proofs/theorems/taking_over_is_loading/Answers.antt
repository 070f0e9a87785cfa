use Rattle.history.proofs.TakingOver.{taking_over_is_loading}
use Rattle.history.proofs.theorems.taking_over_is_loading.Goals as goal

pub returns : goal.returns
returns c = taking_over_is_loading c.archive_laws.ensures.0
