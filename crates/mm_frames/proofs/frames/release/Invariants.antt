use Rattle.std.{proofs.Common.{◌≡◌, ℕ, ◌+◌, ◌≤◌, nat_lt, vec_len}, specs.Vec.vec_capacity}
use Rattle.mm_model.specs.Flags.{one_if}
use Rattle.mm_frames.specs.Framed.{times}
use Rattle.mm_frames.proofs.frames.release.Given as goal

abbrev pub invariant-loop-frame : goal.invariant-loop-frame
invariant-loop-frame l = record {
  least : l.from ≤ l.frame;
  len : vec_len l.free + l.frame ≡ l.count;
  once : (n : ℕ) → times n l.free.items + one_if (nat_lt n l.frame) ≡ one_if (nat_lt n l.count);
  capacity : vec_capacity l.initial.free ≤ vec_capacity l.free;
}
