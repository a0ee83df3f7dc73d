use Rattle.mm_word.proofs.Rights.{can_become-trans}
use Rattle.mm_word.proofs.laws.restriction_is_transitive.Goals as goal

pub returns : goal.returns
returns c = can_become-trans
