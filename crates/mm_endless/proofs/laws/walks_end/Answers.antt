use Rattle.mm_endless.proofs.laws.walks_end.Goals as goal
use Rattle.mm_endless.proofs.Descending as descending

pub returns : goal.returns
returns c = descending.walks_end
