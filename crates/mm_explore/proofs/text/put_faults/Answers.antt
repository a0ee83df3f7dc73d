use Rattle.mm_text.proofs.Appending.{appends_item}
use Rattle.mm_explore.specs.Results.{fault_found_lines}
use Rattle.mm_explore.proofs.text.put_faults.Goals as goal

pub loop-fault-preserved : goal.loop-fault-preserved
loop-fault-preserved g c = appends_item fault_found_lines c.args.faults.now c.loop-fault.fault-index
    c.fault-item.result c.loop-fault-test.true c.fault-item.is c.loop-fault.invariant c.put_fault.ensures
