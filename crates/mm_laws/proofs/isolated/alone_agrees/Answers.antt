use Rattle.mm_laws.proofs.OwnImages.{alone_agrees}
use Rattle.mm_laws.proofs.isolated.alone_agrees.Goals as goal

pub returns : goal.returns
returns c = alone_agrees
