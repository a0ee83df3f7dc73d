use Rattle.mm_asm.proofs.LateSources.{pair_is}
use Rattle.mm_asm.proofs.assembling.early.Goals as goal

pub error_of-requires : goal.error_of-requires
error_of-requires c = pair_is c.in-Fault.failure (rw c.in-Fault.is at c.requires)
