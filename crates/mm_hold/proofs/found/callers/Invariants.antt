use Rattle.std.{proofs.Common.{◌≡◌, take}, specs.List.{All, flat_map}}
use Rattle.mm_graph.specs.Key.{IsKey}
use Rattle.mm_hold.specs.Finding.{caller_seeds}
use Rattle.mm_hold.proofs.found.callers.Given as goal

abbrev pub invariant-loop-slot : goal.invariant-loop-slot
invariant-loop-slot l = (l.seeds.items ≡ flat_map (caller_seeds l.kept) (take l.slot-index l.slots)) × All (λ s. IsKey s.key) l.seeds.items
