use Rattle.std.proofs.Common.{◌≡◌, ◌≤◌, ◌-◌, length, false}
use Rattle.mm_sched.specs.Places.{runs_in}
use Rattle.mm_sched.proofs.runs.run_start.Given as goal

abbrev pub invariant-loop-at : goal.invariant-loop-at
invariant-loop-at l = record {
  from : l.from ≤ l.at;
  inside : l.at ≤ length l.bytes;
  same : runs_in false l.bytes l.at ≡ runs_in false l.bytes l.from;
}

abbrev pub decreases-loop-at : goal.decreases-loop-at
decreases-loop-at l = length l.bytes - l.at
