use Rattle.mm_asm.proofs.Bounded.{drafts_are_bounded}
use Rattle.mm_asm.proofs.laws.drafts_are_bounded.Goals as goal

pub returns : goal.returns
returns c = drafts_are_bounded
