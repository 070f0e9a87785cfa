use Rattle.history.proofs.Successions.{no_succession_leads_to_a_fault}
use Rattle.history.proofs.theorems.no_succession_leads_to_a_fault.Goals as goal

pub returns : goal.returns
returns c = no_succession_leads_to_a_fault
