use Rattle.std.proofs.Common.{◌≡◌}
use Rattle.curves.proofs.Piles.{Piled}
use Rattle.curves.proofs.split.Split.stack_side.Given as goal

abbrev pub invariant-loop-i : goal.invariant-loop-i
invariant-loop-i l =
    Piled l.self.table.gaps.now l.self.table.count l.side l.initial.stack.blocks.now l.stack.blocks.now l.stack.height l.i
    × (l.stack.blocks.ghost_name ≡ l.initial.stack.blocks.ghost_name)
