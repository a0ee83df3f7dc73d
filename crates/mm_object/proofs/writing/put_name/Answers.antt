use Rattle.std.proofs.Common.{append_assoc, append-nil}
use Rattle.mm_object.specs.Format.{name_row, name_fields}
use Rattle.mm_object.proofs.writing.put_name.Goals as goal

pub returns : goal.returns
unfolding name_row name_fields
returns c =
    rw (c.in_ok-extend_from_slice.ensures.items, c.in_ok-push.ensures.items, c.bytes-bytes.ensures.bytes)
    (simp (append_assoc, append-nil))
