use Rattle.std.proofs.Common.{◌≡◌, ◌-◌, ◌<◌, ◌≤◌, true, false, List, ◌∷◌, length, sym, ap, ◌∙◌, subst, arith}
use Rattle.std.proofs.lemmas.List.{get_or_read}
use Rattle.isotonic.specs.declared.blocks.Block.{Block}
use Rattle.isotonic.specs.Stacks.{pushed, stack_in, laid_in}
use Rattle.isotonic.proofs.Pushed.{push_turn, push_over, push_bottom}
use Rattle.pooling.proofs.Memory.{stack_length, put_is}
use Rattle.pooling.proofs.stacks.pool_onto.Goals as goal
use Rattle.pooling.proofs.stacks.pool_onto.Goals.{then-loop-height-test+else-at_most, else-loop-height-test}

pub loop-height-preserved : goal.loop-height-preserved
loop-height-preserved g c =
    let m = g.K.Poolable in
    let ms = c.args.blocks.now in
    let h = c.loop-height.height in
    let b = c.loop-height.block in
    let inv = c.loop-height.invariant in
    let top = c.index-blocks-height-in-loop-height.result in
    let within : h ≤ length ms = omega (arith, inv.0, c.requires) in
    let read = get_or_read ms (h - 1) top (omega arith) c.index-blocks-height-in-loop-height.is c.index-blocks-height.result in
    let falls = subst (λ (t : Block g.row.K.Denot). m.leq b.element t.element ≡ true) (sym read) (sym c.at_most.ensures ∙ c.if-at_most.true) in (
      omega (arith, inv.0),
      ap (pushed m.leq m.joined (stack_in ms (h - 1))) c.merge-block.ensures
          ∙ sym (push_turn m.leq m.joined ms h b top (omega arith) within c.index-blocks-height-in-loop-height.is falls)
          ∙ inv.1,
    )

pub returns : goal.returns
returns g c =
    let m = g.K.Poolable in
    let ms = c.args.blocks.now in
    let h = c.loop-height.height in
    let b = c.loop-height.block in
    let inv = c.loop-height.invariant in
    let room : h < length ms = omega (arith, inv.0, c.requires) in
    let put : b ∷ stack_in ms h ≡ pushed m.leq m.joined (stack_in ms c.args.height) c.args.block =
    sym (elim c.loop-height-test.branch [
      | then-loop-height-test+else-at_most w ↦
          push_over m.leq m.joined ms h b w.index-blocks-height.result (omega arith) (omega arith) w.index-blocks-height.is
          (subst (λ (t : Block g.row.K.Denot). m.leq b.element t.element ≡ false) (sym w.index-blocks-height.is) (sym w.at_most.ensures ∙ w.if-at_most.false))
      | else-loop-height-test w ↦ push_bottom m.leq m.joined ms h b (omega arith)
    ]) ∙ inv.1 in
    record {
      height = omega (arith, stack_length ms h (omega arith), ap length put);
      memory = put_is ms h b room ∙ ap (λ (s : List (Block g.row.K.Denot)). laid_in s ms) put;
    }
