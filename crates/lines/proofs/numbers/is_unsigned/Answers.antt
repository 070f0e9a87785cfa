use Rattle.std.proofs.Common.{◌∙◌, arith, rules}
use Rattle.std.proofs.lemmas.List.Sums.{prefix_len-le-length}
use Rattle.lines.proofs.Grammar.{unsigned_is}
use Rattle.lines.proofs.numbers.is_unsigned.Goals as goal

pub slice_bounds-is_fraction-count : goal.slice_bounds-is_fraction-count
slice_bounds-is_fraction-count c = search (rules, prefix_len-le-length)

pub slice_bounds-is_fraction-start : goal.slice_bounds-is_fraction-start
slice_bounds-is_fraction-start c = search (rules, prefix_len-le-length)

pub returns-then-whole-gt0 : goal.returns-then-whole-gt0
returns-then-whole-gt0 c =
    c.is_fraction.ensures ∙ unsigned_is c.args.text.now c.digits_in_front-whole.result c.digits_in_front-whole.ensures (omega arith)
