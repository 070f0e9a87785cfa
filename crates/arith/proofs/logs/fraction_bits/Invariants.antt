use Rattle.arith.specs.Log.{squarings, mantissa, bits}
use Rattle.arith.proofs.Squarings.{Kept}
use Rattle.arith.proofs.logs.fraction_bits.Given as goal

abbrev pub invariant-loop : goal.invariant-loop
invariant-loop l = Kept squarings (bits squarings (mantissa l.n) 0) l.counter l.at.mantissa l.at.bits
