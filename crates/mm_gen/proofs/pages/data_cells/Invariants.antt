use Rattle.std.proofs.Common.{◌≡◌}
use Rattle.mm_gen.specs.{Generated.nth_number, Steps.cells_behind}
use Rattle.mm_gen.proofs.pages.data_cells.Given as goal

abbrev pub invariant-loop : goal.invariant-loop
invariant-loop l = record {
  last : l.number ≡ nth_number l.initial.number l.counter;
  cells : l.cells.items ≡ cells_behind l.initial.number l.counter;
}
