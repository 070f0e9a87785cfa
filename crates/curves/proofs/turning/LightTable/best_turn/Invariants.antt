use Rattle.std.proofs.Common.{◌≡◌, ◌+◌, drop}
use Rattle.curves.specs.Tables.{stack_score}
use Rattle.curves.specs.declared.side.Side.TheVariants.{Left, Right}
use Rattle.curves.proofs.Passes.{Passed}
use Rattle.curves.proofs.Piles.{Piled}
use Rattle.curves.proofs.turning.LightTable.best_turn.Given as goal

abbrev pub invariant-loop-done : goal.invariant-loop-done
invariant-loop-done l =
    Piled l.self.table.gaps.now l.count Right l.initial.stack.blocks.now l.stack.blocks.now l.stack.height l.done
    × (l.stack.blocks.ghost_name ≡ l.initial.stack.blocks.ghost_name)
    × Passed l.count (stack_score l.self.table.gaps.now l.count Left) (stack_score l.self.table.gaps.now l.count Right) l.scores l.done l.best.left l.best.score
    × (drop (l.count + 1) l.scores ≡ drop (l.count + 1) l.initial.scores)
