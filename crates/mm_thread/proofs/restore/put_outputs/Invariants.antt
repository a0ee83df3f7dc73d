use Rattle.std.proofs.Common.{◌≡◌, [], replicate, drop, length}
use Rattle.mm_thread.specs.Parts.{outputs_with}
use Rattle.mm_thread.proofs.restore.put_outputs.Given as goal

abbrev pub invariant-loop-output : goal.invariant-loop-output
invariant-loop-output l = record {
  groups : length l.tables.outputs ≡ 64;
  others : l.tables ≡ record l.fn.tables { outputs = l.tables.outputs };
  rest : outputs_with (drop l.output-index l.outputs) l.tables.outputs ≡ outputs_with l.outputs (replicate 64 []);
}
