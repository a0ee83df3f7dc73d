use Rattle.std.proofs.Common.{◌≡◌, map, take}
use Rattle.mm_isa.specs.Table.{spelling}
use Rattle.mm_gen.specs.Generated.{full_cell, loop}
use Rattle.mm_gen.proofs.pages.code_cells.Given as goal

abbrev pub invariant-loop-instruction : goal.invariant-loop-instruction
invariant-loop-instruction l = l.cells.items ≡ map (λ i. full_cell (spelling i)) (take l.instruction-index loop)
