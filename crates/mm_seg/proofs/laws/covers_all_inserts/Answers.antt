use Rattle.mm_seg.proofs.ManyInserts.{covers_all}
use Rattle.mm_seg.proofs.laws.covers_all_inserts.Goals as goal

pub returns : goal.returns
returns c = covers_all
