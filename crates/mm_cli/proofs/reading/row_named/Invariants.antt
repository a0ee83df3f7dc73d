use Rattle.std.proofs.Common.{◌≡◌, ◌≢◌, ◌<◌, ℕ, Some, slice_get}
use Rattle.mm_cli.specs.Table.{TableRow, table}
use Rattle.mm_cli.proofs.reading.row_named.Given as goal

-- no row before has the name
abbrev pub invariant-loop-number : goal.invariant-loop-number
invariant-loop-number l = (number : ℕ) (row : TableRow) → number < l.number → slice_get table number ≡ Some row → row.name ≢ l.name
