use Rattle.std.proofs.Common.{◌≡◌, ℕ, ◌+◌, ◌≤◌, get_or, drop, pos}
use Rattle.curves.specs.Tables.{stack_score}
use Rattle.curves.specs.declared.side.Side.TheVariants.{Left}
use Rattle.curves.proofs.Piles.{Piled}
use Rattle.curves.proofs.turning.LightTable.score_fronts.Given as goal

abbrev pub invariant-loop-i : goal.invariant-loop-i
invariant-loop-i l =
    Piled l.self.table.gaps.now l.self.table.count Left l.initial.stack.blocks.now l.stack.blocks.now l.stack.height l.i
    × (l.stack.blocks.ghost_name ≡ l.initial.stack.blocks.ghost_name)
    × ((t : ℕ) → t ≤ l.i → get_or l.scores t (pos 0) ≡ stack_score l.self.table.gaps.now l.self.table.count Left t)
    × (drop (l.self.table.count + 1) l.scores ≡ drop (l.self.table.count + 1) l.initial.scores)
