use Rattle.std.proofs.Common.{map, vec_items, sym, ◌∙◌, arith}
use Rattle.lines.proofs.Parting.{part_all, part_ends, part_goes}
use Rattle.lines.proofs.fields.part.Goals as goal
use Rattle.lines.proofs.fields.part.Goals.{then-parts_fields+in_ok-end_field, else-parts_fields}

pub loop-i-preserved : goal.loop-i-preserved
loop-i-preserved c =
    elim c.if-parts_fields.branch [
      | then-parts_fields+in_ok-end_field w ↦
          simp (w.fields-is, w.start-is, w.in_ok-end_field.ensures)
          (omega arith, part_ends (map (λ x. x.now) (vec_items c.loop-i.fields)) c.args.line.now c.loop-i.start c.loop-i.i c.loop-i-test.true (sym w.if-parts_fields.ensures) c.loop-i.invariant.1)
      | else-parts_fields w ↦
          simp (w.fields-is, w.start-is)
          (omega arith, part_goes (map (λ x. x.now) (vec_items c.loop-i.fields)) c.args.line.now c.loop-i.start c.loop-i.i c.loop-i.invariant.0 c.loop-i-test.true (sym w.if-parts_fields.ensures) c.loop-i.invariant.1)
    ]

pub returns : goal.returns
returns c =
    c.in_ok-end_field-2.ensures
    ∙ part_all (map (λ x. x.now) (vec_items c.loop-i.fields)) c.args.line.now c.loop-i.start c.loop-i.i (omega arith) c.loop-i.invariant.1
