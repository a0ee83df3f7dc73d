use Rattle.std.{proofs.Common.{◌≡◌, ◌≤◌, ◌+◌, ◌*◌, length, take}, specs.Prelude.sum_by}
use Rattle.mm_thread.specs.Output.{Output}
use Rattle.mm_checkpoint.proofs.writing.length_of.Given as goal

abbrev pub invariant-loop-output : goal.invariant-loop-output
invariant-loop-output l = record {
  exact : l.total ≡ sum_by (λ (o : Output). 4 + length o.bytes) (take l.output-index l.outputs);
  bound : l.total ≤ 65540 * l.output-index;
}
