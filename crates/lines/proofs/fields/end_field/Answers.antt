use Rattle.std.proofs.Common.{vec_items}
use Rattle.lines.proofs.Parting.{field_added}
use Rattle.lines.proofs.fields.end_field.Goals as goal

pub returns-in_ok-push : goal.returns-in_ok-push
returns-in_ok-push c =
    field_added (vec_items c.args.fields.now) (vec_items c.push.new.self) c.args.field c.in_ok-push.ensures.items c.if-not-is_empty.ensures
