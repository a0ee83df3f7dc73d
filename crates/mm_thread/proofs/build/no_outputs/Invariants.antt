use Rattle.std.proofs.Common.{◌≡◌, [], replicate}
use Rattle.mm_thread.proofs.build.no_outputs.Given as goal

abbrev pub invariant-loop-group : goal.invariant-loop-group
invariant-loop-group l = l.outputs.items ≡ replicate l._group []
