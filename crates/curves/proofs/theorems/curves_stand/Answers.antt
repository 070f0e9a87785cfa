use Rattle.curves.proofs.Best.{gap_is_best}
use Rattle.curves.proofs.Faultless.{pieces_stand}
use Rattle.curves.proofs.Gaps.{gaps_agree}
use Rattle.curves.proofs.Listed.{ages_stand}
use Rattle.curves.proofs.Steps.{steps_join, steps_turn, values_stand}
use Rattle.curves.proofs.theorems.curves_stand.Goals as goal

pub returns : goal.returns
returns c = record { ages = ages_stand; gaps = gaps_agree; turning = gap_is_best; pieces = pieces_stand; joins = steps_join; turns = steps_turn; values = values_stand }
