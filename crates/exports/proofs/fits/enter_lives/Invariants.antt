use Rattle.std.proofs.Common.{◌≡◌, map, drop}
use Rattle.lives.specs.Studies.{held}
use Rattle.history.specs.Runs.{calls_after}
use Rattle.exports.specs.Codes.{life_entered}
use Rattle.exports.proofs.fits.enter_lives.Given as goal

-- the lives that are left lead where all of them lead
abbrev pub invariant-loop-exit : goal.invariant-loop-exit
invariant-loop-exit l =
    (calls_after (held l.study) (map life_entered (drop l.exit-index l.exits)) ≡ calls_after (held l.initial.study) (map life_entered l.exits))
    × (l.study.memory.ghost_name ≡ l.initial.study.memory.ghost_name)
