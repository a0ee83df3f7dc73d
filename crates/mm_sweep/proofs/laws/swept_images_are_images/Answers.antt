use Rattle.mm_sweep.proofs.SweptImages.{swept_is_image}
use Rattle.mm_sweep.proofs.laws.swept_images_are_images.Goals as goal

pub returns : goal.returns
returns c = swept_is_image
