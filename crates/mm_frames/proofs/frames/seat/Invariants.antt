use Rattle.std.proofs.Common.{◌≡◌, ℕ, ◌≤◌, nat_lt, [], take, slice_index_or, vec_len}
use Rattle.std.specs.{Vec.vec_capacity, List.AllByRecursion}
use Rattle.mm_model.specs.{Flags.one_if, Memory.IsPage}
use Rattle.mm_frames.{specs.Framed.rows_with, proofs.Rows.paired}
use Rattle.mm_frames.proofs.frames.seat.Given as goal

abbrev pub invariant-loop-i : goal.invariant-loop-i
invariant-loop-i l = record {
  seated : paired (λ frame. slice_index_or l.frames.items frame []) l.rows.items ≡ take l.i l.pages;
  whole : AllByRecursion IsPage (take l.i l.pages);
  once : (n : ℕ) → rows_with n l.rows.items ≡ one_if (nat_lt n l.i);
  len : vec_len l.rows ≡ l.i;
  frames : vec_len l.frames ≡ vec_len l.initial.frames;
  capacity : vec_capacity l.initial.rows ≤ vec_capacity l.rows;
}
