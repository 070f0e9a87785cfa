use Rattle.std.proofs.Common.{◌≡◌, ◌≤◌}
use Rattle.isotonic.specs.Stacks.{pushed, stack_in}
use Rattle.pooling.proofs.stacks.pool_onto.Given as goal

abbrev pub invariant-loop-height : goal.invariant-loop-height
invariant-loop-height g l =
    let m = g.K.Poolable in
    (l.height ≤ l.initial.height)
    × (pushed m.leq m.joined (stack_in l.blocks l.height) l.block ≡ pushed m.leq m.joined (stack_in l.blocks l.initial.height) l.initial.block)

abbrev pub decreases-loop-height : goal.decreases-loop-height
decreases-loop-height g l = l.height
