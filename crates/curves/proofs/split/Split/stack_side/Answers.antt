use Rattle.std.proofs.Common.{◌≡◌, drop, sym, refl, ap, ◌∙◌, arith, rules}
use Rattle.curves.proofs.Aged.{side_within}
use Rattle.curves.proofs.Laid.{drop_later}
use Rattle.curves.proofs.Piles.{pile_start}
use Rattle.curves.proofs.split.Split.stack_side.Goals as goal

pub loop-i-init : goal.loop-i-init
loop-i-init c = (pile_start c.args.self.now.table.gaps.now c.args.self.now.table.count c.args.side _ _ c.new-stack.ensures.height, refl)

pub returns-clause-rest : goal.returns-clause-rest
returns-clause-rest c =
    let k = c.args.self.now.table.count in
    let rest : drop k c.loop-i.stack.blocks.now ≡ drop k c.args.blocks.now =
    drop_later c.loop-i.i k c.loop-i.stack.blocks.now c.new-stack.result.blocks.now (omega (arith, c.size-i-end.ensures, side_within c.args.self.now c.args.side)) c.loop-i.invariant.0.rest ∙ ap (drop k) c.new-stack.ensures.memory in
    let named = sym c.new-stack.ensures.named ∙ sym c.loop-i.invariant.1 in
    search rules
