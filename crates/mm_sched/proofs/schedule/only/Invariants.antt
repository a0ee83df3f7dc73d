use Rattle.std.{proofs.Common.{◌≡◌, ◌≤◌, ◌==◌, length, take}, specs.List.{filter, list_any}}
use Rattle.mm_sched.proofs.schedule.only.Given as goal

abbrev pub invariant-loop-item : goal.invariant-loop-item
invariant-loop-item l = record {
  kept : l.kept.items ≡ filter (λ item. list_any (λ member. member == item) l.members) (take l.item-index l.first);
  few : length l.kept.items ≤ l.item-index;
}
