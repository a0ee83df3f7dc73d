use Rattle.std.{proofs.Common.{◌≡◌, ◌-◌, ◌++◌, take}, specs.{List.flat_map, BTreeMap.get}}
use Rattle.mm_word.specs.Cause.{cause_numbers}
use Rattle.mm_explore.specs.{Noting.fault_kept, Words.order}
use Rattle.mm_explore.proofs.faults.put_faults.Given as goal

abbrev pub invariant-loop-cause : goal.invariant-loop-cause
invariant-loop-cause l =
    l.out.items ≡ l.fn.out.items
    ++ flat_map (λ cause. fault_kept l.found l.slot cause (get order l.faults (l.slot, cause))) (take (l.cause - 1) cause_numbers)
