use Rattle.std.proofs.Common.{[], take}
use Rattle.mm_asm.specs.{Answers.Meets, Names.{HasEach, externals_with}, Faults.limit_failures}
use Rattle.mm_object.specs.Steps.{key_names}
use Rattle.mm_asm.proofs.externals.first_seen.Given as goal

abbrev pub invariant-loop-u : goal.invariant-loop-u
invariant-loop-u l = record {
  names : HasEach (externals_with l.draft [] (take l.u-index l.uses)) (key_names l.names.keys);
  faults : Meets l.initial.first l.first (limit_failures l.draft [] (take l.u-index l.uses));
}
