use Rattle.std.proofs.Common.{length}
use Rattle.mm_image.proofs.writing.+cell_tags.Given as goal

abbrev pub decreases-cell_tags : goal.decreases-cell_tags
decreases-cell_tags l = length l.cells.now
