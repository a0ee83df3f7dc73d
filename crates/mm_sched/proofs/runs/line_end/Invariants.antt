use Rattle.std.proofs.Common.{◌≡◌, true}
use Rattle.mm_sched.specs.Places.{runs_in}
use Rattle.mm_sched.proofs.runs.line_end.Given as goal

abbrev pub invariant-loop-at : goal.invariant-loop-at
invariant-loop-at l = runs_in true l.bytes l.at ≡ runs_in true l.bytes l.from
