use Rattle.std.proofs.Common.{◌≡◌, take, replicate}
use Rattle.mm_model.specs.Memory.{zero_cell}
use Rattle.mm_config.proofs.pages.are_zeros.Given as goal

abbrev pub invariant-loop-cell : goal.invariant-loop-cell
invariant-loop-cell l = take l.cell-index l.cells ≡ replicate l.cell-index zero_cell
