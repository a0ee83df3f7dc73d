-- Bytes of images, computed.
use Rattle.std.proofs.Common.{refl}
use Rattle.mm_model.specs.Bytes.{number_at}
use Rattle.mm_format.specs.{Formats.cons, Headers.header}
use Rattle.mm_format.specs.Images.{flags_of, mask, bits_in, bits, word, ip, slot, page, slots, image, image_fault}
use Rattle.mm_examples.specs.Worked.{SpelledInBytes, FirstFaults, HandlersAreLate}

pub spelled_in_bytes : SpelledInBytes
unfolding cons header mask bits word ip slot page slots image
spelled_in_bytes = (refl, refl)

pub first_faults : FirstFaults
unfolding image_fault number_at cons header flags_of mask bits_in bits word ip slot page slots image
first_faults = (
  refl,
  refl,
  refl,
  refl,
  refl,
  refl,
  refl,
  refl,
  refl,
  refl,
  refl,
  refl,
  refl,
  refl,
  refl,
  refl,
  refl,
  refl,
)

pub handlers_are_late : HandlersAreLate
unfolding image_fault number_at cons header flags_of mask bits_in bits word ip slot page slots image
handlers_are_late = (refl, refl, refl)
