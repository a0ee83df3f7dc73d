use Rattle.mm_top.proofs.CountsBehind.{counts_behind}
use Rattle.mm_top.proofs.memories.counts_stand_behind.Goals as goal

pub returns : goal.returns
returns c = counts_behind
