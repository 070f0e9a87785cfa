use Rattle.isotonic.proofs.Agree.{rules_agree, blocks_tile}
use Rattle.isotonic.proofs.Falling.{falling_turns}
use Rattle.isotonic.proofs.Fronts.{fronts_nest}
use Rattle.isotonic.proofs.Mirror.{rising_mirrors}
use Rattle.pooling.proofs.Turning.{turned_falls}
use Rattle.pooling.proofs.rising.fits_agree.Goals as goal

pub returns : goal.returns
returns g c =
    let laws = g.met.K.Poolable.lawful in
    record { agree = rules_agree laws; tile = blocks_tile laws; turns = falling_turns laws; turned = turned_falls laws; mirrors = rising_mirrors laws; nest = fronts_nest laws }
