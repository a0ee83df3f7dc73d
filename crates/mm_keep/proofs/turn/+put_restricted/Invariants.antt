use Rattle.std.proofs.Common.{length}
use Rattle.mm_keep.proofs.turn.+put_restricted.Given as goal

abbrev pub decreases-put_restricted : goal.decreases-put_restricted
decreases-put_restricted l = length l.permissions.now
