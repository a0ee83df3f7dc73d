use Rattle.std.proofs.Common.{length}
use Rattle.mm_object.proofs.writing.+full_bits.Given as goal

abbrev pub decreases-full_bits : goal.decreases-full_bits
decreases-full_bits l = length l.items.now
