use Rattle.std.proofs.Common.{arith}
use Rattle.exports.proofs.Gathered.{ages_more, ages_all}
use Rattle.exports.proofs.fits.copy_ages.Goals as goal

pub loop-i-preserved : goal.loop-i-preserved
loop-i-preserved c =
    let l = c.loop-i in
    ages_more c.args.ticks.now l.ages l.i _ c.loop-i-test.true (omega arith) l.invariant

pub returns : goal.returns
returns c =
    let l = c.loop-i in
    ages_all c.args.ticks.now l.ages l.i c.loop-i-test.false l.auto.i-end l.invariant
