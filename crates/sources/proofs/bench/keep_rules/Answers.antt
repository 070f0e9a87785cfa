use Rattle.std.proofs.Common.{◌∙◌}
use Rattle.sources.proofs.Benches.{valid_by}
use Rattle.sources.proofs.bench.keep_rules.Goals as goal

pub returns-then-are_sizes_valid : goal.returns-then-are_sizes_valid
returns-then-are_sizes_valid c = c.are_in_order.ensures ∙ valid_by c.args.units c.args.stop.0 c.args.ages.now _ c.if-are_sizes_valid.ensures

pub returns-else-are_sizes_valid : goal.returns-else-are_sizes_valid
returns-else-are_sizes_valid c = c.if-are_sizes_valid.false ∙ valid_by c.args.units c.args.stop.0 c.args.ages.now _ c.if-are_sizes_valid.ensures
