use Rattle.std.{proofs.Common.{◌≡◌, ℕ, Option, Some, None, refl, append_assoc}, specs.Option.unwrap_or}
use Rattle.mm_checkpoint.specs.{Checkpoints.last_byte, Format.header}
use Rattle.mm_checkpoint.proofs.writing.put_header.Goals as goal

or_none : (last : Option ℕ) → unwrap_or last 255 ≡ last_byte last
or_none None = refl
or_none (Some n) = refl

pub returns : goal.returns
unfolding header
returns c =
    rw (
      c.in_ok-extend_from_slice-5.ensures.items,
      c.to_be_bytes-3.ensures,
      c.pages.ensures.pages,
      c.in_ok-extend_from_slice-4.ensures.items,
      c.to_be_bytes-2.ensures,
      c.cycles.ensures.cycles,
      c.in_ok-extend_from_slice-3.ensures.items,
      c.unwrap_or.ensures,
      or_none c.args.last,
      c.in_ok-extend_from_slice-2.ensures.items,
      c.to_be_bytes.ensures,
      c.in_ok-extend_from_slice.ensures.items,
    ) (simp append_assoc)
