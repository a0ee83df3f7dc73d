use Rattle.std.proofs.Common.{◌+◌, ◌*◌}
use Rattle.mm_config.proofs.pages.+has_same_places.Given as goal

abbrev pub decreases-has_same_places : goal.decreases-has_same_places
decreases-has_same_places l = 2 * l.depth + 1

abbrev pub decreases-other_has_same_places : goal.decreases-other_has_same_places
decreases-other_has_same_places l = 2 * l.depth
