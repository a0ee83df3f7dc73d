use Rattle.std.{proofs.Common.take, specs.List.flat_map}
use Rattle.mm_text.specs.Appends.{Appends}
use Rattle.mm_explore.specs.Results.{fault_found_lines}
use Rattle.mm_explore.proofs.text.put_faults.Given as goal

abbrev pub invariant-loop-fault : goal.invariant-loop-fault
invariant-loop-fault g l = Appends g.O.Sink.taken g.O.Sink.faults l.initial.out l.out l.initial.text l.text (flat_map fault_found_lines (take l.fault-index l.faults))
