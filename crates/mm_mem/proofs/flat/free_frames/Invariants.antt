use Rattle.std.{proofs.Common.{◌≡◌, ◌≤◌, vec_len}, specs.Vec.vec_capacity}
use Rattle.mm_mem.proofs.flat.free_frames.Given as goal

abbrev pub invariant-loop : goal.invariant-loop
invariant-loop l = record {
  taken : vec_len l.free ≡ l.counter;
  room : l.count ≤ vec_capacity l.free;
}
