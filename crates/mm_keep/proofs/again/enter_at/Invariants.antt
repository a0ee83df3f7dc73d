use Rattle.std.proofs.Common.{take}
use Rattle.std.specs.List.{flat_map}
use Rattle.mm_kernel.specs.{declared.thread.Handler.Handler, Facts.take_up, Threads.thread_through}
use Rattle.mm_keep.specs.Claims.{AddsFacts}
use Rattle.mm_keep.proofs.again.enter_at.Given as goal

abbrev pub invariant-loop-handler : goal.invariant-loop-handler
invariant-loop-handler l = AddsFacts l.kernel.image l.kernel.kept (flat_map (λ (handler : Handler). take_up l.kernel.image l.kernel.kept (thread_through l.door l.ip handler)) (take l.handler-index l.handlers)) l.initial.tables l.tables
