use Rattle.mm_debug.proofs.SameAnswers.{answers_depend}
use Rattle.mm_debug.proofs.laws.answers_depend_on_these.Goals as goal

pub returns : goal.returns
returns c = answers_depend
