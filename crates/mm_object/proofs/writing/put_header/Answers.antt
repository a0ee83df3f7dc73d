use Rattle.std.proofs.Common.{append_assoc}
use Rattle.mm_object.specs.Format.{header_row}
use Rattle.mm_object.proofs.writing.put_header.Goals as goal

pub returns : goal.returns
unfolding header_row
returns c =
    rw (
      c.in_ok-extend_from_slice-7.ensures.items,
      c.in_ok-extend_from_slice-6.ensures.items,
      c.in_ok-extend_from_slice-5.ensures.items,
      c.in_ok-extend_from_slice-4.ensures.items,
      c.in_ok-extend_from_slice-3.ensures.items,
      c.in_ok-extend_from_slice-2.ensures.items,
      c.in_ok-extend_from_slice.ensures.items,
      c.to_be_bytes.ensures,
      c.to_be_bytes-2.ensures,
      c.segments.ensures.segments,
      c.to_be_bytes-3.ensures,
      c.externals.ensures.externals,
      c.to_be_bytes-4.ensures,
      c.relocs.ensures.relocs,
      c.to_be_bytes-5.ensures,
      c.threads.ensures.threads,
      c.to_be_bytes-6.ensures,
      c.spare.ensures.spare,
    ) (simp append_assoc)
