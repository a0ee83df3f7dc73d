use Rattle.std.proofs.Common.{append_assoc, append-nil}
use Rattle.mm_object.specs.Format.{target_row}
use Rattle.mm_object.proofs.writing.put_target.Goals as goal

pub returns : goal.returns
unfolding target_row
returns c =
    rw (
      c.in_ok-extend_from_slice-2.ensures.items,
      c.to_be_bytes-2.ensures,
      c.in_ok-extend_from_slice.ensures.items,
      c.to_be_bytes.ensures,
    ) (simp (append_assoc, append-nil))
