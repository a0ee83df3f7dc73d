use Rattle.std.proofs.Common.{append_assoc, append-nil}
use Rattle.mm_object.specs.Format.{good_thread, thread_fields, perm_row, target_row}
use Rattle.mm_format.specs.Images.{mask}
use Rattle.mm_object.proofs.writing.put_thread.Goals as goal

pub returns : goal.returns
unfolding good_thread thread_fields perm_row target_row mask
returns c =
    rw (
      c.in_ok-put_values.ensures,
      c.in_ok-extend_from_slice-2.ensures.items,
      c.to_be_bytes.ensures,
      c.tags_of.ensures.value,
      c.in_ok-put_target.ensures,
      c.in_ok-extend_from_slice.ensures.items,
      c.thread_head.ensures,
    ) (simp (append_assoc, append-nil))
