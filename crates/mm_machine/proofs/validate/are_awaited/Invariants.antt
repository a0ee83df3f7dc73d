use Rattle.std.{proofs.Common.take, specs.List.AllByRecursion}
use Rattle.mm_machine.specs.Snapshot.{IsAwaited}
use Rattle.mm_machine.proofs.validate.are_awaited.Given as goal

abbrev pub invariant-loop-queue : goal.invariant-loop-queue
invariant-loop-queue l = AllByRecursion (IsAwaited l.slots) (take l.queue-index l.events)
