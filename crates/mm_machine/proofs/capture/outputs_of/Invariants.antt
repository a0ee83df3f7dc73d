use Rattle.mm_machine.specs.Capture.{OutputsBelow}
use Rattle.mm_machine.proofs.capture.outputs_of.Given as goal

abbrev pub invariant-loop-group : goal.invariant-loop-group
invariant-loop-group l = OutputsBelow l.core l.slots l.group l.outputs.items
