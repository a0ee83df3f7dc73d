use Rattle.std.proofs.Common.{length}
use Rattle.mm_object.proofs.writing.+tags_of.Given as goal

abbrev pub decreases-tags_of : goal.decreases-tags_of
decreases-tags_of l = length l.values.now
