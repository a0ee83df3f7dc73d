use Rattle.mm_line.proofs.StatementRanges.{line_is}
use Rattle.mm_line.proofs.laws.lines_are_in_range.Goals as goal

pub returns : goal.returns
returns c = line_is
