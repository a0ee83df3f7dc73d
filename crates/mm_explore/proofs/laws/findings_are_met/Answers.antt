use Rattle.mm_explore.proofs.Earliest.{findings_are_met}
use Rattle.mm_explore.proofs.laws.findings_are_met.Goals as goal

pub returns : goal.returns
returns c = findings_are_met
