use Rattle.mm_kernel.proofs.Runs.{keepers_are_variants}
use Rattle.mm_kernel.proofs.laws.keepers_are_variants.Goals as goal

pub returns : goal.returns
returns c = keepers_are_variants
