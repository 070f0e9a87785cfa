use Rattle.arith.proofs.Means.{weighted_mean}
use Rattle.arith.proofs.theorems.weighted_mean.Goals as goal

pub returns : goal.returns
returns c = weighted_mean
