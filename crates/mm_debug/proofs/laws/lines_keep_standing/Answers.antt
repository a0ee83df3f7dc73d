use Rattle.mm_debug.proofs.LinesStand.{lines_keep_standing}
use Rattle.mm_debug.proofs.laws.lines_keep_standing.Goals as goal

pub returns : goal.returns
returns c = lines_keep_standing
