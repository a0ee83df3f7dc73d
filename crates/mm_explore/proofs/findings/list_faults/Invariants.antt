use Rattle.std.{proofs.Common.{◌≡◌, ◌++◌, take}, specs.{List.flat_map, BTreeMap.get}}
use Rattle.mm_word.specs.Cause.{cause_numbers}
use Rattle.mm_explore.specs.{Noting.fault_kept, Words.order}
use Rattle.mm_explore.proofs.findings.list_faults.Given as goal

abbrev pub invariant-loop-slot : goal.invariant-loop-slot
invariant-loop-slot l =
    l.out.items ≡ l.fn.out.items
    ++ flat_map (λ s. flat_map (λ cause. fault_kept l.found s.number cause (get order l.faults (s.number, cause))) cause_numbers) (take l.slot-index l.slots)
