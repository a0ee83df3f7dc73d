use Rattle.mm_audit.specs.Meeting.{AreNoRows}
use Rattle.mm_audit.proofs.least_shared.no_rows.Given as goal

abbrev pub invariant-loop : goal.invariant-loop
invariant-loop l = AreNoRows l.counter l.table.items
