use Rattle.mm_top.proofs.Assembled.{texts_run}
use Rattle.mm_top.proofs.laws.texts_are_run.Goals as goal

pub returns : goal.returns
returns c = texts_run
