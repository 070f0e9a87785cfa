use Rattle.std.proofs.Common.{arith}
use Rattle.arith.specs.Log.{squarings}
use Rattle.arith.proofs.Log.{log_is_close, log_values}
use Rattle.arith.proofs.theorems.log_is_close.Goals as goal

pub returns : goal.returns
returns c = record { any = log_is_close; scores = log_is_close squarings (omega arith); values = log_values }
