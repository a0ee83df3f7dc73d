use Rattle.mm_kernel.proofs.Runs.{kernels_keep}
use Rattle.mm_kernel.proofs.laws.kernels_keep.Goals as goal

pub returns : goal.returns
returns c = kernels_keep
