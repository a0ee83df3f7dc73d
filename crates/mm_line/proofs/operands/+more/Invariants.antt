use Rattle.std.proofs.Common.{length}
use Rattle.mm_line.proofs.operands.+more.Given as goal

abbrev pub decreases-more : goal.decreases-more
decreases-more l = length l.kinds.now
