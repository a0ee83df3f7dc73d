use Rattle.std.{proofs.Common.{◌≡◌, ◌++◌, map, take}, specs.List.flat_map}
use Rattle.mm_thread.specs.Output.{Output}
use Rattle.mm_checkpoint.specs.Format.{output_record}
use Rattle.mm_checkpoint.proofs.writing.put_outputs.Given as goal

abbrev pub invariant-loop-output : goal.invariant-loop-output
invariant-loop-output l = l.out.items ≡ l.initial.out.items ++ flat_map output_record (map (λ (o : Output). (o.group, o.bytes)) (take l.output-index l.outputs))
