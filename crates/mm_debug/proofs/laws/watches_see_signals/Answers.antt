use Rattle.mm_debug.proofs.Watching.{watches_see}
use Rattle.mm_debug.proofs.laws.watches_see_signals.Goals as goal

pub returns : goal.returns
returns c = watches_see
