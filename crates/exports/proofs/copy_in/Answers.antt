use Rattle.std.proofs.Common.{sym, arith}
use Rattle.exports.proofs.Exposed.{unexposed_at, copied_more, copied_all}
use Rattle.exports.proofs.copy_in.Goals as goal

pub returns-in_err-rates-clause-none : goal.returns-in_err-rates-clause-none
returns-in_err-rates-clause-none c =
    simp c.from_residual.ensures (sym (unexposed_at c.args.plain.now c.loop-i.i _ c.loop-i-test.true (c.in_err-rates.ensures)))

pub loop-i-preserved : goal.loop-i-preserved
loop-i-preserved c =
    let l = c.loop-i in
    copied_more c.args.plain.now l.i _ c.loop-i-test.true l.rates c.in_ok-rates.field-0 (omega arith) c.in_ok-rates.ensures l.invariant

pub returns-clause-rates : goal.returns-clause-rates
returns-clause-rates c =
    let l = c.loop-i in
    copied_all c.args.plain.now l.rates l.i c.loop-i-test.false l.auto.i-end l.invariant
