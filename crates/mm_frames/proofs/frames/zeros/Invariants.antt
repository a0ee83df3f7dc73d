use Rattle.std.{proofs.Common.{◌≡◌, ◌≤◌, vec_len}, specs.Vec.vec_capacity}
use Rattle.mm_frames.proofs.frames.zeros.Given as goal

abbrev pub invariant-loop : goal.invariant-loop
invariant-loop l = record {
  taken : vec_len l.frames ≡ l.counter;
  room : l.count ≤ vec_capacity l.frames;
}
