use Rattle.cases.proofs.Computed.{cases}
use Rattle.cases.proofs.worked.cases_hold.Goals as goal

pub returns : goal.returns
returns c = cases
