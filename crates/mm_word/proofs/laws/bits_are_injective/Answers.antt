use Rattle.mm_word.proofs.Packing.{bits_of-injective}
use Rattle.mm_word.proofs.laws.bits_are_injective.Goals as goal

pub returns : goal.returns
returns c = bits_of-injective
