use Rattle.std.proofs.Common.{ap, ◌∙◌}
use Rattle.lines.proofs.Ends.{end_taken}
use Rattle.lines.proofs.fields.without_last.Goals as goal

pub returns : goal.returns
returns c = ap (λ x. x.now) c.unwrap_or.ensures ∙ end_taken c.args.byte c.args.line c.strip_suffix.result c.strip_suffix.ensures.cases
