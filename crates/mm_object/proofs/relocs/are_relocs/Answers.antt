use Rattle.std.proofs.{Common.arith, lemmas.Grind.common_steps}
use Rattle.mm_object.proofs.relocs.are_relocs.Goals as goal

pub loop-reloc-preserved : goal.loop-reloc-preserved
loop-reloc-preserved c = grind (arith, common_steps)
