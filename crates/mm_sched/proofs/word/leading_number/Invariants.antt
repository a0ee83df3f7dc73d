use Rattle.std.{proofs.Common.{◌≡◌, ◌≤◌, ◌-◌, length, take}, specs.Str.Parse.digits_value}
use Rattle.mm_sched.proofs.Numbers.{DigitsTo}
use Rattle.mm_sched.proofs.word.leading_number.Given as goal

abbrev pub invariant-loop-end : goal.invariant-loop-end
invariant-loop-end l = record {
  inside : l.end ≤ length l.text;
  digits : DigitsTo l.text l.end;
  value : digits_value 10 (take l.end l.text) ≡ l.number;
  limit : l.number ≤ l.most;
}

abbrev pub decreases-loop-end : goal.decreases-loop-end
decreases-loop-end l = length l.text - l.end
