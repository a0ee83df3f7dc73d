use Rattle.mm_link.proofs.Mapped.{pages_are_those_of_segments, segments_are_mapped, pages_hold_segments}
use Rattle.mm_link.proofs.laws.pages_are_those_of_segments.Goals as goal

pub returns-clause-exactly : goal.returns-clause-exactly
returns-clause-exactly c = pages_are_those_of_segments

pub returns-clause-mapped : goal.returns-clause-mapped
returns-clause-mapped c = segments_are_mapped

pub returns-clause-held : goal.returns-clause-held
returns-clause-held c = pages_hold_segments
