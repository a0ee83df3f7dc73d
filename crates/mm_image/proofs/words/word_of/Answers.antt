use Rattle.std.proofs.{Common.arith, lemmas.Grind.common_steps}
use Rattle.mm_image.proofs.words.word_of.Goals as goal

pub returns-in-Err-clause-word : goal.returns-in-Err-clause-word
returns-in-Err-clause-word c = grind (arith, common_steps)
