use Rattle.std.proofs.Common.{ℕ, ◌<◌}
use Rattle.mm_isa.{specs.{Table.unused, Decode.row_of}, proofs.Forms.NamesOther}
use Rattle.mm_isa.proofs.form.operation_named.Given as goal

abbrev pub invariant-loop-code : goal.invariant-loop-code
invariant-loop-code l = (code : ℕ) → code < l.code → NamesOther l.name (row_of (unused code))
