use Rattle.std.proofs.Common.{◌≡◌, map, take}
use Rattle.pooling.specs.Kinds.{rate_ratio}
use Rattle.exports.specs.Counts.{plain_ratio}
use Rattle.exports.proofs.copy_in.Given as goal

-- the rates before place i are copied in
abbrev pub invariant-loop-i : goal.invariant-loop-i
invariant-loop-i l = map rate_ratio (take l.i l.rates) ≡ map plain_ratio (take l.i l.plain)
