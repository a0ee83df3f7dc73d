use Rattle.std.proofs.Common.{◌≡◌, take}
use Rattle.mm_audit.specs.Own.{is_covered, kept_cells}
use Rattle.mm_audit.proofs.kept_parts.cells_of.Given as goal

abbrev pub invariant-loop-cell_index : goal.invariant-loop-cell_index
invariant-loop-cell_index l = l.kept.items ≡ kept_cells (is_covered l.set) l.base (take l.cell_index l.cells)
