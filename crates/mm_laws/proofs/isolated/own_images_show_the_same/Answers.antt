use Rattle.mm_laws.proofs.OwnItems.{alone_sees, extracts_see}
use Rattle.mm_laws.proofs.isolated.own_images_show_the_same.Goals as goal

pub returns : goal.returns
returns c = record { alone = alone_sees; extracted = extracts_see }
