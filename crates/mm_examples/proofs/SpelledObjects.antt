-- First faults of object files, computed.
use Rattle.std.proofs.Common.{refl}
use Rattle.mm_model.specs.Bytes.{number_at}
use Rattle.mm_format.specs.{Formats.cons, Images.{mask, flags_of, bits_in}}
use Rattle.mm_object.specs.Faults.{object_fault}
use Rattle.mm_object.specs.Format.{header_row, name_fields, name_row, external_row, bits_row, item_row, log_row}
use Rattle.mm_object.specs.Format.{count_row, segment_row, perm_row, target_row, reloc_fields, good_reloc, integer_row}
use Rattle.mm_object.specs.Format.{pointer_row, thread_fields, good_thread, pointers_row, object}
use Rattle.mm_examples.specs.WorkedObjects.{FirstObjectFaults, UsesAreLate}

pub first_object_faults : FirstObjectFaults
unfolding object_fault number_at cons mask flags_of bits_in header_row name_fields name_row external_row bits_row
    item_row log_row count_row segment_row perm_row target_row reloc_fields good_reloc integer_row pointer_row thread_fields
    good_thread pointers_row object
first_object_faults = (
  refl,
  refl,
  refl,
  refl,
  refl,
  refl,
  refl,
  refl,
  refl,
  refl,
  refl,
  refl,
  refl,
  refl,
  refl,
  refl,
)

pub uses_are_late : UsesAreLate
unfolding object_fault number_at cons mask flags_of bits_in header_row name_fields name_row external_row bits_row
    item_row log_row count_row segment_row perm_row target_row reloc_fields good_reloc integer_row pointer_row thread_fields
    good_thread pointers_row object
uses_are_late = (refl, refl, refl)
