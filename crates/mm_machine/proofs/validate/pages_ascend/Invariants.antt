use Rattle.mm_machine.{specs.Snapshot.page_numbers, proofs.Rising.RiseBelow}
use Rattle.mm_machine.proofs.validate.pages_ascend.Given as goal

abbrev pub invariant-loop-k : goal.invariant-loop-k
invariant-loop-k l = RiseBelow (page_numbers l.pages) l.k
