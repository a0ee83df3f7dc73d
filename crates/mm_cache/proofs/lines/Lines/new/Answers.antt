use Rattle.mm_cache.proofs.Placed.{lines_empty}
use Rattle.mm_cache.proofs.lines.Lines.new.Goals as goal

pub invariant_of-result : goal.invariant_of-result
invariant_of-result c = lines_empty
