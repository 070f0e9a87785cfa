use Rattle.arith.proofs.Rivals.{no_rival_is_likelier}
use Rattle.arith.proofs.theorems.no_rival_is_likelier.Goals as goal

pub returns : goal.returns
returns c = no_rival_is_likelier
