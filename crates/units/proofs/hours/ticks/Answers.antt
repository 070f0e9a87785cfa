use Rattle.std.proofs.Common.{T, sym, subst}
use Rattle.units.proofs.Quarters.{out_of_range, zero_found, ticks_found, fraction_found}
use Rattle.units.proofs.hours.ticks.Goals as goal

pub returns-then-not-in_range : goal.returns-then-not-in_range
returns-then-not-in_range c = out_of_range c.args.hours c.if-not-in_range.ensures

pub returns-then-is_zero : goal.returns-then-is_zero
returns-then-is_zero c =
    zero_found c.args.hours c.in_quarters-quarters.result (subst T (sym c.well_formed.0.1) tt) c.in_quarters-quarters.ensures c.if-not-in_range.ensures c.if-is_zero.ensures

pub returns-then-not-is_whole : goal.returns-then-not-is_whole
returns-then-not-is_whole c =
    fraction_found c.args.hours c.in_quarters-quarters.result (subst T (sym c.well_formed.0.1) tt) c.in_quarters-quarters.ensures c.if-is_zero.ensures c.if-not-is_whole.ensures

pub float_to_int-result : goal.float_to_int-result
float_to_int-result c =
    (ticks_found c.args.hours c.in_quarters-quarters.result (subst T (sym c.well_formed.0.1) tt) c.in_quarters-quarters.ensures c.if-not-in_range.ensures c.if-is_zero.ensures c.if-not-is_whole.ensures).0

pub returns : goal.returns
returns c =
    (ticks_found c.args.hours c.in_quarters-quarters.result (subst T (sym c.well_formed.0.1) tt) c.in_quarters-quarters.ensures c.if-not-in_range.ensures c.if-is_zero.ensures c.if-not-is_whole.ensures).1
