use Rattle.std.proofs.Common.{mod-eq_of_lt}
use Rattle.arith.specs.Log.{squarings, mantissa}
use Rattle.arith.proofs.Log.{mantissa_range, bits_below}
use Rattle.arith.proofs.Squarings.{kept_start, kept_more, kept_all}
use Rattle.arith.proofs.logs.fraction_bits.Goals as goal

pub loop-init : goal.loop-init
loop-init c =
    let r = mantissa_range c.args.n c.requires c.ranges.n.fits in
    rw (c.moved_up.ensures, mod-eq_of_lt r.1) (kept_start squarings _ r.0 r.1)

pub loop-preserved : goal.loop-preserved
loop-preserved c = kept_more squarings _ _ c.loop.at.mantissa c.loop.at.bits _ _ c.loop-test.true c.loop.invariant c.square-at.ensures.next c.square-at.ensures.note

pub returns : goal.returns
returns c =
    let e = kept_all squarings _ c.loop.counter c.loop.at.mantissa c.loop.at.bits c.loop-test.false c.loop.invariant in
    record { value = e; small = rw e (bits_below squarings (mantissa c.args.n) 0) }
