use Rattle.mm_confine.proofs.Confined.{kernels_confine}
use Rattle.mm_confine.proofs.laws.kernels_confine.Goals as goal

pub returns : goal.returns
returns c = kernels_confine
