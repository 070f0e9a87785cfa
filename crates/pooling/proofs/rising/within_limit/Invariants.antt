use Rattle.std.proofs.Common.{◌≡◌, ◌≤◌, length, take, sum_by}
use Rattle.isotonic.specs.Laws.{limit}
use Rattle.pooling.proofs.rising.within_limit.Given as goal

abbrev pub invariant-loop-piece : goal.invariant-loop-piece
invariant-loop-piece g l =
    (l.piece-index ≤ length l.pieces) × (l.sum ≡ sum_by g.K.Poolable.bulks (take l.piece-index l.pieces)) × (l.sum ≤ limit)
