use Rattle.std.proofs.Common.{arith}
use Rattle.mm_thread.proofs.RunningSlots.{runners_say}
use Rattle.mm_thread.proofs.tables.Tables.running.Goals as goal

pub returns : goal.returns
returns c = rw (← c.self.view_is) (runners_say _ c.self.inside.runners (omega arith) c.self.invariant.running)
