use Rattle.std.{proofs.Common.take, specs.List.flat_map}
use Rattle.mm_asm.specs.{Answers.Meets, Faults.use_failures}
use Rattle.mm_asm.proofs.checks.meet_targets.Given as goal

abbrev pub invariant-loop-u : goal.invariant-loop-u
invariant-loop-u l = Meets l.initial.first l.first (flat_map (use_failures l.draft) (take l.u-index l.uses))
