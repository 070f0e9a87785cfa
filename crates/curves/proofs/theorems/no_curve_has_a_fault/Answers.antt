use Rattle.curves.proofs.Faultless.{no_curve_has_a_fault}
use Rattle.curves.proofs.theorems.no_curve_has_a_fault.Goals as goal

pub returns : goal.returns
returns c = no_curve_has_a_fault
