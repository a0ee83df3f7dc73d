use Rattle.std.proofs.Common.{◌≡◌, map, take}
use Rattle.mm_hold.specs.Graphs.{entry_mask}
use Rattle.mm_hold.proofs.graph.entry_masks.Given as goal

abbrev pub invariant-loop-key : goal.invariant-loop-key
invariant-loop-key l = l.masks.items ≡ map (entry_mask l.kernel.kept) (take l.key-index l.keys)
