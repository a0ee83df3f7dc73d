use Rattle.std.proofs.Common.{◌+◌, ◌*◌}
use Rattle.mm_pairs.proofs.pairs.Pairs.+list_changed.Given as goal

abbrev pub decreases-list_changed : goal.decreases-list_changed
decreases-list_changed l = 2 * l.depth + 1

abbrev pub decreases-list_other : goal.decreases-list_other
decreases-list_other l = 2 * l.depth
