use Rattle.std.proofs.Common.{append_assoc, append-nil}
use Rattle.mm_object.specs.Format.{integer_row, pointer_row, perm_row}
use Rattle.mm_object.proofs.writing.put_value.Goals as goal

pub returns-in_ok-extend_from_slice-in-Int : goal.returns-in_ok-extend_from_slice-in-Int
unfolding integer_row
returns-in_ok-extend_from_slice-in-Int c =
    rw (c.in-Int.is, c.in_ok-extend_from_slice-in-Int.ensures.items, c.to_be_bytes.ensures)
    (simp (append_assoc, append-nil))

pub returns-in_ok-put_target-in-Ptr : goal.returns-in_ok-put_target-in-Ptr
unfolding pointer_row perm_row
returns-in_ok-put_target-in-Ptr c =
    rw (
      c.in-Ptr.is,
      c.in_ok-put_target-in-Ptr.ensures,
      c.in_ok-extend_from_slice-in-Ptr.ensures.items,
      c.code.ensures.value,
    ) (simp (append_assoc, append-nil))
