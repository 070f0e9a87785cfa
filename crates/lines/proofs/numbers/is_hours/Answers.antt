use Rattle.std.proofs.Common.{rules}
use Rattle.lines.proofs.Grammar.{minus_is}
use Rattle.lines.proofs.numbers.is_hours.Goals as goal

pub returns-then-begins_with : goal.returns-then-begins_with
returns-then-begins_with c = search (rules, minus_is)
