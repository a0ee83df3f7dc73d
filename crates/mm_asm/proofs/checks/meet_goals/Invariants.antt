use Rattle.std.proofs.Common.{take}
use Rattle.mm_asm.{specs.Answers.Meets, proofs.{Built.numbered, BuiltNumbered.goals_in}}
use Rattle.mm_asm.proofs.checks.meet_goals.Given as goal

abbrev pub invariant-loop-number : goal.invariant-loop-number
invariant-loop-number l = Meets l.initial.first l.first (numbered (goals_in l.draft) 0 (take l.number l.segment-items))
