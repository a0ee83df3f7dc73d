use Rattle.std.{proofs.Common.{◌≡◌, Bool, true, false, refl, append_assoc}, specs.Int.from_bool}
use Rattle.mm_model.specs.Spelling.{mode_of}
use Rattle.mm_format.specs.Headers.{header}
use Rattle.mm_image.proofs.writing.put_header.Goals as goal

mode_byte : (b : Bool) → from_bool b ≡ mode_of b
mode_byte true = refl
mode_byte false = refl

pub returns : goal.returns
unfolding header
returns c =
    rw (
      c.in_ok-extend_from_slice-6.ensures.items,
      c.in_ok-extend_from_slice-5.ensures.items,
      c.in_ok-extend_from_slice-4.ensures.items,
      c.in_ok-extend_from_slice-3.ensures.items,
      c.in_ok-extend_from_slice-2.ensures.items,
      c.in_ok-extend_from_slice.ensures.items,
      c.to_be_bytes.ensures,
      c.version.ensures.version,
      c.to_be_bytes-2.ensures,
      c.slots.ensures.slots,
      c.to_be_bytes-3.ensures,
      c.frames.ensures.frames,
      c.to_be_bytes-4.ensures,
      c.pages.ensures.pages,
      c.to_be_bytes-5.ensures,
      c.split.ensures.split,
      mode_byte c.args.img.now.split,
    ) (simp append_assoc)
