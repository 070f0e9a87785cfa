use Rattle.std.proofs.Common.{◌∙◌, ap, arith}
use Rattle.isotonic.specs.Stacks.{mirrored}
use Rattle.isotonic.specs.Theorems.{Inside}
use Rattle.isotonic.specs.declared.blocks.Block.{Block}
use Rattle.pooling.specs.declared.rates.Rate.{Rate}
use Rattle.curves.specs.Splits.{split_size}
use Rattle.curves.proofs.Aged.{block_inside, block_left, block_right}
use Rattle.curves.proofs.split.Split.block_at.Goals as goal
use Rattle.curves.proofs.split.Split.block_at.Goals.{After-unturned-in-Right}

right_inside : (c : After-unturned-in-Right) → Inside (split_size c.args.self.now c.args.side) c.unturned-in-Right.result
right_inside c =
    block_inside c.args.self.now c.args.side c.args.stack.now c.requires.pile _ c.index-stack-stack.result c.unturned-in-Right.result (omega (arith, c.requires.low)) c.index-stack-stack.is c.unturned-in-Right.ensures

pub mirror-requires : goal.mirror-requires
mirror-requires c = let h = right_inside (goal.at.mirror-requires c).After-unturned-in-Right in (h.0, omega (arith, h.1, c.size.ensures))

pub returns-in-Left : goal.returns-in-Left
returns-in-Left c =
    let s = c.args.self.now in
    record {
      inside = block_inside s c.args.side c.args.stack.now c.requires.pile c.args.i _ _ c.requires.low c.index-stack-i.is c.unturned.ensures;
      is = block_left s c.args.side c.args.stack.now c.requires.pile c.args.i _ _ c.requires.low c.in-Left.is c.index-stack-i.is c.unturned.ensures;
    }

pub returns-in-Right : goal.returns-in-Right
returns-in-Right c =
    let s = c.args.self.now in
    let was = right_inside (goal.at.returns-in-Right c).After-unturned-in-Right in
    let first = ap (λ (b : Block Rate). b.first) c.mirror.ensures in
    let last = ap (λ (b : Block Rate). b.last) c.mirror.ensures in
    let size = c.size.ensures in
    record {
      inside = (omega (arith, first, last, was.0, was.1, size), omega (arith, last, was.0, was.1, size));
      is = block_right s c.args.side c.args.stack.now c.requires.pile c.args.i c.index-stack-stack.result _ c.requires.low c.in-Right.is c.index-stack-stack.is
          (c.mirror.ensures ∙ (λ j. mirrored (size j) (c.unturned-in-Right.ensures j)));
    }
