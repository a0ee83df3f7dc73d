use Rattle.mm_format.proofs.ImagesWhole.{image_spelled}
use Rattle.mm_format.proofs.laws.parts_come_in_order.Goals as goal

pub returns : goal.returns
returns c = image_spelled
