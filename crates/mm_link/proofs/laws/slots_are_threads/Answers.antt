use Rattle.mm_link.proofs.Threaded.{slots_are_threads}
use Rattle.mm_link.proofs.laws.slots_are_threads.Goals as goal

pub returns : goal.returns
returns c = slots_are_threads
