use Rattle.mm_mem.proofs.Kept.{come_back_empty}
use Rattle.mm_mem.proofs.laws.removed_pages_are_forgotten.Goals as goal

pub returns : goal.returns
returns c = come_back_empty
