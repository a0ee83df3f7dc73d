use Rattle.mm_keep_text.proofs.Ones.{answers_are_one}
use Rattle.mm_keep_text.proofs.laws.answers_are_one.Goals as goal

pub returns : goal.returns
returns c = answers_are_one
