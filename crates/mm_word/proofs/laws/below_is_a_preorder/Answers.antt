use Rattle.mm_word.proofs.Below.{IsBelow-refl, IsBelow-trans}
use Rattle.mm_word.proofs.laws.below_is_a_preorder.Goals as goal

pub returns-clause-reflexive : goal.returns-clause-reflexive
returns-clause-reflexive c = IsBelow-refl

pub returns-clause-transitive : goal.returns-clause-transitive
returns-clause-transitive c = IsBelow-trans
