use Rattle.std.proofs.Common.{◌≡◌, true, false, ◌∙◌, rules}
use Rattle.lines.specs.Fields.{begins}
use Rattle.lines.proofs.Reading.{no_text, number_read, plus_first}
use Rattle.lines.proofs.numbers.number.Goals as goal

pub returns-in_default : goal.returns-in_default
returns-in_default c = no_text c.args.radix c.args.field.now c.requires.high c.in_default.ensures.cases.0

pub returns-then-begins_with : goal.returns-then-begins_with
returns-then-begins_with c =
    let h : begins 43 c.args.field.now ≡ true = search rules in plus_first c.args.radix c.args.field.now c.requires.high h

pub returns : goal.returns
returns c =
    let h : begins 43 c.args.field.now ≡ false = search rules in
    let same = c.in-Ok.ensures.cases.0 in
    c.ok.ensures.value ∙ number_read c.args.radix c.args.field.now c.from_str_radix.result h (rw same at c.from_str_radix.ensures.value)
