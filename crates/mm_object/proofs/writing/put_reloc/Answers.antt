use Rattle.std.proofs.Common.{append_assoc, append-nil}
use Rattle.mm_object.specs.Format.{good_reloc, reloc_fields, perm_row, target_row}
use Rattle.mm_object.proofs.writing.put_reloc.Goals as goal

pub returns : goal.returns
unfolding good_reloc reloc_fields perm_row target_row
returns c =
    rw (
      c.in_ok-put_target.ensures,
      c.in_ok-push.ensures.items,
      c.code.ensures.value,
      c.in_ok-extend_from_slice-2.ensures.items,
      c.to_be_bytes-2.ensures,
      c.in_ok-extend_from_slice.ensures.items,
      c.to_be_bytes.ensures,
    ) (simp (append_assoc, append-nil))
