use Rattle.std.{proofs.Common.{◌≡◌, take}, specs.List.flat_map}
use Rattle.mm_audit.specs.Serving.{served_by}
use Rattle.mm_audit.proofs.handlers.served_in.Given as goal

abbrev pub invariant-loop-s : goal.invariant-loop-s
invariant-loop-s l = l.served.items ≡ flat_map (λ s. flat_map (served_by s) l.slots) (take l.s-index l.slots)
