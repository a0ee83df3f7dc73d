use Rattle.mm_seg.proofs.ManyInserts.{holds_all}
use Rattle.mm_seg.proofs.laws.holds_all_inserts.Goals as goal

pub returns : goal.returns
returns c = holds_all
