use Rattle.mm_laws.proofs.GrantLaws.{grants_grow, all_grant_most}
use Rattle.mm_laws.proofs.grants.grants_grow.Goals as goal

pub returns-clause-grow : goal.returns-clause-grow
returns-clause-grow c = grants_grow

pub returns-clause-most : goal.returns-clause-most
returns-clause-most c = all_grant_most
