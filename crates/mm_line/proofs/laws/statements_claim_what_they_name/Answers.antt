use Rattle.mm_line.proofs.Claims.{line_claims}
use Rattle.mm_line.proofs.laws.statements_claim_what_they_name.Goals as goal

pub returns : goal.returns
returns c = line_claims
