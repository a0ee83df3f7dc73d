use Rattle.mm_confine_text.proofs.Ones.{texts_are_one}
use Rattle.mm_confine_text.proofs.laws.texts_are_one.Goals as goal

pub returns : goal.returns
returns c = texts_are_one
