use Rattle.mm_word.proofs.Below.{InSegment-shorter}
use Rattle.mm_word.proofs.laws.shorter_segments_nest.Goals as goal

pub returns : goal.returns
returns c = InSegment-shorter
