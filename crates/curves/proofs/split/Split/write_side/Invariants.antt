use Rattle.std.proofs.Common.{◌≡◌, map, take}
use Rattle.pooling.specs.Pooling.{laid_at}
use Rattle.pooling.specs.Scores.{blocks_score, rate_score}
use Rattle.curves.specs.Splits.{split_blocks, split_step}
use Rattle.curves.proofs.split.Split.write_side.Given as goal

abbrev pub invariant-loop-i : goal.invariant-loop-i
invariant-loop-i l =
    (l.steps ≡ laid_at l.at (map (split_step l.self l.side) (take l.i (split_blocks l.self l.side))) l.initial.steps)
    × (l.score ≡ blocks_score rate_score (take l.i (split_blocks l.self l.side)))
