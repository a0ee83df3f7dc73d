use Rattle.mm_asm.proofs.Texts.{meanings_are_one, texts_mean_or_fail}
use Rattle.mm_asm.proofs.laws.texts_mean_or_fail.Goals as goal

pub returns-clause-one : goal.returns-clause-one
returns-clause-one c = meanings_are_one

pub returns-clause-exactly : goal.returns-clause-exactly
returns-clause-exactly c = texts_mean_or_fail
