use Rattle.mm_asm.proofs.Meanings.{meanings_are_objects}
use Rattle.mm_asm.proofs.laws.meanings_are_objects.Goals as goal

pub returns : goal.returns
returns c = meanings_are_objects
