use Rattle.mm_isa.proofs.Arithmetics.{alu_result-fits}
use Rattle.mm_isa.proofs.laws.results_fit.Goals as goal

pub returns : goal.returns
returns c = alu_result-fits
