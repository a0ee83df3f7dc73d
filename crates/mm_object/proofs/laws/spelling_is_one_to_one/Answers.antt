use Rattle.std.proofs.Common.{refl}
use Rattle.mm_object.{specs.Format.spelling, proofs.FormatWhole.spelled_one}
use Rattle.mm_object.proofs.laws.spelling_is_one_to_one.Goals as goal

pub returns-clause-one : goal.returns-clause-one
returns-clause-one c = λ bytes a b s t. spelled_one bytes a b s t

pub returns-clause-injective : goal.returns-clause-injective
returns-clause-injective c = λ a b s t e.
    spelled_one (spelling a) a b (record { object = s; spelled = refl }) (record { object = t; spelled = e })
