use Rattle.std.proofs.Common.{◌≡◌}
use Rattle.pooling.proofs.Filled.{Filled}
use Rattle.pooling.proofs.rising.pool_all.Given as goal

abbrev pub invariant-loop-i : goal.invariant-loop-i
invariant-loop-i g l =
    let m = g.K.Poolable in
    Filled m.leq m.joined l.pieces l.initial.stack.blocks.now l.stack.blocks.now l.stack.height l.i
    × (l.stack.blocks.ghost_name ≡ l.initial.stack.blocks.ghost_name)
