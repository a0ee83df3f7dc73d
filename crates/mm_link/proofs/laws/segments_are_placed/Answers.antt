use Rattle.mm_link.proofs.Falling.{all_segments_are_placed, lengths_fall, segments_are_aligned, segments_are_disjoint}
use Rattle.mm_link.proofs.{Mapped.segments_are_found, Tied.ties_stand_as_given}
use Rattle.mm_link.proofs.laws.segments_are_placed.Goals as goal

pub returns-clause-all : goal.returns-clause-all
returns-clause-all c = all_segments_are_placed

pub returns-clause-ties : goal.returns-clause-ties
returns-clause-ties c = ties_stand_as_given

pub returns-clause-fall : goal.returns-clause-fall
returns-clause-fall c = lengths_fall

pub returns-clause-aligned : goal.returns-clause-aligned
returns-clause-aligned c = segments_are_aligned

pub returns-clause-disjoint : goal.returns-clause-disjoint
returns-clause-disjoint c = segments_are_disjoint

pub returns-clause-found : goal.returns-clause-found
returns-clause-found c = segments_are_found
