use Rattle.std.{proofs.Common.{◌≡◌, [], take}, specs.List.flat_map}
use Rattle.mm_hold.specs.{Conducts.Notes, Deeds.thread_deeds}
use Rattle.mm_hold.proofs.conduct.note_threads.Given as goal

abbrev pub invariant-loop-k : goal.invariant-loop-k
invariant-loop-k l = record {
  notes : Notes (flat_map (thread_deeds l.kernel.image l.kernel.kept (record { tables = l.tables; first = l.first; carrying = l.carrying })) (take l.k l.tables.threads)) l.fn.conduct l.conduct;
  empty : l.deeds.items ≡ [];
}
