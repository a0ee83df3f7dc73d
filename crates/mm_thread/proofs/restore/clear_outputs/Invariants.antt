use Rattle.std.proofs.Common.{◌≡◌, ◌++◌, [], replicate, drop}
use Rattle.mm_thread.proofs.restore.clear_outputs.Given as goal

abbrev pub invariant-loop-group : goal.invariant-loop-group
invariant-loop-group l = l.tables ≡ record l.initial.tables { outputs = replicate l.group [] ++ drop l.group l.initial.tables.outputs }
