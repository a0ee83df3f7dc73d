use Rattle.std.proofs.{Common.arith, lemmas.Grind.common_steps}
use Rattle.mm_word.proofs.ops.leab.Goals as goal

pub returns-clause-bounds : goal.returns-clause-bounds
returns-clause-bounds c = grind (arith, common_steps)

pub returns-clause-kept : goal.returns-clause-kept
returns-clause-kept c = grind (arith, common_steps)

pub returns-clause-below : goal.returns-clause-below
returns-clause-below c = grind (arith, common_steps)
