use Rattle.std.{proofs.Common.{◌≡◌, ◌+◌, ◌≤◌, take, vec_len}, specs.{Vec.vec_capacity, List.AllByRecursion}}
use Rattle.mm_model.specs.Memory.{IsPage}
use Rattle.mm_mem.proofs.flat.seat.Given as goal

abbrev pub invariant-loop-page : goal.invariant-loop-page
invariant-loop-page l = record {
  seated : l.used.items ≡ take l.page-index l.pages;
  whole : AllByRecursion IsPage (take l.page-index l.pages);
  left : vec_len l.free + l.page-index ≡ vec_len l.initial.free;
  used_capacity : vec_capacity l.initial.used ≤ vec_capacity l.used;
  free_capacity : vec_capacity l.free ≡ vec_capacity l.initial.free;
}
