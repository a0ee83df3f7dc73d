use Rattle.std.proofs.Common.{refl}
use Rattle.mm_format.{specs.Images.spelling, proofs.ImagesWhole.spelled_one}
use Rattle.mm_image.proofs.laws.spelling_is_one_to_one.Goals as goal

pub returns-clause-one : goal.returns-clause-one
returns-clause-one c = λ bytes i j a b. spelled_one bytes i j a b

pub returns-clause-injective : goal.returns-clause-injective
returns-clause-injective c = λ i j a b e.
    spelled_one (spelling i) i j (record { image = a; spelled = refl }) (record { image = b; spelled = e })
