use Rattle.std.proofs.Common.{rules}
use Rattle.lines.proofs.Grammar.{point_is}
use Rattle.lines.proofs.numbers.is_fraction.Goals as goal

pub returns-then-begins_with : goal.returns-then-begins_with
returns-then-begins_with c = search (rules, point_is)
