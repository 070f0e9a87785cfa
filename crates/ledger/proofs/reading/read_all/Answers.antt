use Rattle.std.proofs.Common.{vec_items, sym, ◌∙◌}
use Rattle.ledger.proofs.Gathering.{gather_all, gather_more, gather_none, gather_start}
use Rattle.ledger.proofs.reading.read_all.Goals as goal

pub loop-field-init : goal.loop-field-init
loop-field-init g c = (c.requires, λ t reads. gather_start t (vec_items c.new-all.result) c.args.fields.now c.new-all.ensures.items)

pub returns-in_default : goal.returns-in_default
returns-in_default g c =
    λ t reads. gather_none t (vec_items c.loop-field.all) c.args.fields.now c.loop-field.field-index _ c.loop-field-test.true
    (sym c.in_default.is ∙ reads _ _ c.read.ensures) (c.loop-field.invariant.1 t reads)

pub loop-field-preserved : goal.loop-field-preserved
loop-field-preserved g c = (
  c.requires,
  λ t reads. simp c.in_ok-push.ensures.items
      (gather_more t (vec_items c.loop-field.all) c.args.fields.now c.loop-field.field-index _ c.in-Some.value c.loop-field-test.true
      (sym c.in-Some.is ∙ reads _ _ c.read.ensures) (c.loop-field.invariant.1 t reads)),
)

pub returns : goal.returns
returns g c = λ t reads. gather_all t (vec_items c.loop-field.all) c.args.fields.now c.loop-field.field-index c.loop-field-test.false (c.loop-field.invariant.1 t reads)
