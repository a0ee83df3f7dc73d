use Rattle.mm_keep_text.proofs.Ones.{yes_keeps}
use Rattle.mm_keep_text.proofs.laws.yes_keeps.Goals as goal

pub returns : goal.returns
returns c = yes_keeps
