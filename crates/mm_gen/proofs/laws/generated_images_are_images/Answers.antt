use Rattle.mm_gen.proofs.Images.{generated_is_image}
use Rattle.mm_gen.proofs.laws.generated_images_are_images.Goals as goal

pub returns : goal.returns
returns c = generated_is_image
