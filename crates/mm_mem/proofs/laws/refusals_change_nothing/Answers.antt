use Rattle.mm_mem.proofs.Kept.{refusals}
use Rattle.mm_mem.proofs.laws.refusals_change_nothing.Goals as goal

pub returns : goal.returns
returns c = refusals
