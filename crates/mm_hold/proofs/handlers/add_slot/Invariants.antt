use Rattle.std.{proofs.Common.{◌≡◌, ◌++◌, take}, specs.List.flat_map}
use Rattle.mm_hold.specs.Handlers.{served_by_caller}
use Rattle.mm_hold.proofs.handlers.add_slot.Given as goal

abbrev pub invariant-loop-t : goal.invariant-loop-t
invariant-loop-t l = l.served.items ≡ l.initial.served.items ++ flat_map (served_by_caller l.kernel.image l.kernel.kept l.s) (take l.t-index l.slots)
