use Rattle.std.proofs.Common.{◌≡◌, ◌+◌, ◌++◌, take}
use Rattle.arrayvec.specs.ArrayVec.{array_vec_len}
use Rattle.mm_top.specs.Groups.{named}
use Rattle.mm_top.proofs.members.push_numbers.Given as goal

-- the numbers of the slots so far
abbrev pub invariant-loop-slot : goal.invariant-loop-slot
invariant-loop-slot l = record {
  items : l.members.items ≡ l.initial.members.items ++ named l.from (take l.slot-index l.slots);
  len : array_vec_len l.members ≡ array_vec_len l.initial.members + l.slot-index;
}
