use Rattle.std.proofs.Common.{◌≡◌, map, take}
use Rattle.units.specs.Hours.{age_ticks}
use Rattle.exports.proofs.fits.copy_ages.Given as goal

-- the ages before place i are copied in
abbrev pub invariant-loop-i : goal.invariant-loop-i
invariant-loop-i l = map age_ticks (take l.i l.ages) ≡ take l.i l.ticks
