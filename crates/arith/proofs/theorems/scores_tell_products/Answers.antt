use Rattle.std.proofs.Common.{arith}
use Rattle.arith.specs.Log.{squarings}
use Rattle.arith.proofs.Scores.{scores_tell_products}
use Rattle.arith.proofs.theorems.scores_tell_products.Goals as goal

pub returns : goal.returns
returns c = record { any = scores_tell_products; scores = scores_tell_products squarings (omega arith) (omega arith) }
