use Rattle.mm_laws.proofs.Restricting.{stays, goes, by_parts, to_none}
use Rattle.mm_laws.proofs.restrictions.restrictions_are_exact.Goals as goal

pub returns-clause-stays : goal.returns-clause-stays
returns-clause-stays c = stays

pub returns-clause-goes : goal.returns-clause-goes
returns-clause-goes c = goes

pub returns-clause-by_parts : goal.returns-clause-by_parts
returns-clause-by_parts c = by_parts

pub returns-clause-to_none : goal.returns-clause-to_none
returns-clause-to_none c = to_none
