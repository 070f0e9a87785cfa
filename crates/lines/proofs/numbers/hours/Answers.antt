use Rattle.std.proofs.Common.{is_some, is_ok, sym}
use Rattle.lines.proofs.Grammar.{hours_parsed, hours_text}
use Rattle.lines.proofs.numbers.hours.Goals as goal

pub returns-in_default : goal.returns-in_default
returns-in_default c = absurd (c.in_default.ensures.cases.0 (hours_text c.args.field.now (sym c.if-not-is_hours.ensures)))

pub returns : goal.returns
returns c =
    hours_parsed c.args.field.now c.in-Ok.text.now (is_ok c.parse.result) (is_some c.ok.result) c.in-Ok.ensures.cases.0 (sym c.if-not-is_hours.ensures) c.parse.ensures.value.0.0 c.ok.ensures.variant
