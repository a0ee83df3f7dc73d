use Rattle.mm_object.proofs.FormatWhole.{object_spelled}
use Rattle.mm_object.proofs.laws.parts_come_in_order.Goals as goal

pub returns : goal.returns
returns c = object_spelled
