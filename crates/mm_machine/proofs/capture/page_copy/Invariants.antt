use Rattle.std.proofs.Common.{◌≡◌, take}
use Rattle.mm_machine.specs.Capture.{cells_of}
use Rattle.mm_machine.proofs.capture.page_copy.Given as goal

abbrev pub invariant-loop-cell_index : goal.invariant-loop-cell_index
invariant-loop-cell_index g l = l.cells.items ≡ take l.cell_index (cells_of (g.M.Memory.meaning l.mem) l.number)
