use Rattle.std.{proofs.Common.{◌≡◌, ◌++◌, drop}, specs.List.flat_map}
use Rattle.mm_link.specs.Linked.{part_cells}
use Rattle.mm_link.proofs.memory.cells_of.Given as goal

abbrev pub invariant-loop-part : goal.invariant-loop-part
invariant-loop-part l = l.cells.items ++ flat_map (part_cells l.sites) (drop l.part-index l.parts) ≡ flat_map (part_cells l.sites) l.parts
