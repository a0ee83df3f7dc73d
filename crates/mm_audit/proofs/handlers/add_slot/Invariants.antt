use Rattle.std.{proofs.Common.{◌≡◌, ◌++◌, take}, specs.List.flat_map}
use Rattle.mm_audit.specs.Serving.{served_by}
use Rattle.mm_audit.proofs.handlers.add_slot.Given as goal

abbrev pub invariant-loop-t : goal.invariant-loop-t
invariant-loop-t l = l.served.items ≡ l.fn.served.items ++ flat_map (served_by l.s) (take l.t-index l.slots)
