use Rattle.mm_format.proofs.ImagesWhole.{clean_spells, spelled_clean}
use Rattle.mm_image.proofs.laws.images_have_no_fault.Goals as goal

pub returns : goal.returns
returns c = λ bytes. (λ i s. spelled_clean bytes i s, λ fits none. clean_spells bytes fits none)
