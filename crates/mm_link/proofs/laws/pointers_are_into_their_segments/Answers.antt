use Rattle.mm_link.proofs.Pointed.{pointers_are_into_their_segments}
use Rattle.mm_link.proofs.laws.pointers_are_into_their_segments.Goals as goal

pub returns : goal.returns
returns c = pointers_are_into_their_segments
