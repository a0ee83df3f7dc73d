use Rattle.mm_laws.proofs.OwnImages.{extracts_agree}
use Rattle.mm_laws.proofs.isolated.extracts_agree.Goals as goal

pub returns : goal.returns
returns c = extracts_agree
