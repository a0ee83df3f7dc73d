use Rattle.std.proofs.Common.{◌≡◌, ◌++◌, replicate}
use Rattle.mm_model.specs.Memory.{zero_cell}
use Rattle.mm_gen.proofs.pages.push_zeros.Given as goal

abbrev pub invariant-loop : goal.invariant-loop
invariant-loop l = l.cells.items ≡ l.initial.cells.items ++ replicate l.counter zero_cell
