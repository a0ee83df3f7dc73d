use Rattle.std.{proofs.Common.take, specs.List.flat_map}
use Rattle.mm_asm.specs.{Answers.Meets, Faults.word_failures}
use Rattle.mm_asm.proofs.checks.meet_goals_in.Given as goal

abbrev pub invariant-loop-word : goal.invariant-loop-word
invariant-loop-word l = Meets l.initial.first l.first (flat_map (word_failures l.draft l.segment) (take l.word-index l.words))
