use Rattle.std.proofs.Common.{◌≡◌, ◌+◌, Some, ap, ◌∙◌, sym, subst, arith}
use Rattle.std.specs.Option.{IsSome}
use Rattle.isotonic.specs.declared.blocks.Block.{Block}
use Rattle.isotonic.specs.Stacks.{stack_in, top_of}
use Rattle.pooling.specs.declared.rates.Rate.{Rate}
use Rattle.curves.specs.Tables.{piled, side_stack}
use Rattle.curves.proofs.Laid.{drop_later}
use Rattle.curves.proofs.Piles.{Put, put, pushed_last, stack_more, top_map, top_sum, top_there}
use Rattle.curves.proofs.table.Table.push_piece.Goals as goal
use Rattle.curves.proofs.table.Table.push_piece.Goals.{After-push}

made : (c : goal.After-push) → Put c.args.stack.now.blocks.now c.args.stack.now.height c.args.i c.piece.result c.push.new.self.blocks.now c.push.new.self.height
made c = put c.args.stack.now.blocks.now c.args.stack.now.height c.args.i c.piece.result (omega (arith, c.requires.room)) _ _ c.push.ensures.height c.push.ensures.memory

pub returns : goal.returns
returns c =
    let p = made (goal.at.returns c).After-push in
    let table = c.args.self.now in
    let i = c.args.i in
    let ms = c.push.new.self.blocks.now in
    let h = c.push.new.self.height in
    let top : top_of (piled ms h) ≡ Some c.unturned.result = top_map (stack_in ms h) c.unwrap-2.result (sym c.unwrap-2.ensures ∙ c.top.ensures) ∙ ap (λ (b : Block Rate). Some b) (sym c.unturned.ensures) in
    let pile : piled ms h ≡ side_stack table.gaps.now table.count c.args.side (i + 1) = p.pile ∙ stack_more table.gaps.now table.count c.args.side _ i c.piece.result c.requires.pile c.piece.ensures in
    let sum = top_sum table.gaps.now table.count c.args.side i (piled ms h) c.unturned.result pile top in
    let last = pushed_last _ _ c.unturned.result (ap top_of (sym p.pile) ∙ top) in
    record {
      pile = pile;
      places = (omega (arith, sum.0, last), last);
      score = sum.1;
      low = omega (arith, p.low, c.requires.room);
      rest = drop_later (c.args.stack.now.height + 1) (i + 1) ms c.args.stack.now.blocks.now (omega (arith, c.requires.room)) p.rest;
      long = p.long;
      named = c.push.ensures.named;
    }

pub unwrap-requires-2 : goal.unwrap-requires-2
unwrap-requires-2 c =
    let p = made (goal.at.unwrap-requires-2 c).After-push in
    subst IsSome (sym c.top.ensures) (top_there (stack_in c.push.new.self.blocks.now c.push.new.self.height) p.some)
