use Rattle.std.proofs.Common.{sym, arith}
use Rattle.arith.specs.Log.{squarings, scaled_log2}
use Rattle.arith.proofs.Log.{log_below, log_values}
use Rattle.arith.proofs.logs.scaled_log2.Goals as goal

pub returns : goal.returns
unfolding scaled_log2
returns c = record { value = c.positive_log2.ensures; small = rw c.positive_log2.ensures (log_below squarings c.args.n) }

pub returns-then-n-eq0 : goal.returns-then-n-eq0
returns-then-n-eq0 c = record { value = rw c.if-n-eq0.true (sym log_values.0); small = omega arith }
