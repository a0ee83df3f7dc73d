use Rattle.std.proofs.Common.{ap, append_assoc, append-nil}
use Rattle.mm_model.specs.Slot.{Slot}
use Rattle.mm_format.specs.Images.{slot, ip, mask}
use Rattle.mm_image.proofs.writing.put_slot.Goals as goal

pub returns : goal.returns
unfolding slot ip mask
returns c =
    let ip = ap (λ (x : Slot). x.ip) c.slot.view_is in
    let regs = ap (λ (x : Slot). x.regs) c.slot.view_is in
    rw (
      c.in_ok-put_words.ensures,
      c.in_ok-extend_from_slice-3.ensures.items,
      c.in_ok-extend_from_slice-2.ensures.items,
      c.in_ok-extend_from_slice.ensures.items,
      c.slot_head.ensures,
      c.to_be_bytes.ensures,
      c.bits.ensures.bits,
      c.to_be_bytes-2.ensures,
      c.tags_of.ensures.value,
      ip,
      regs,
    ) (simp (append_assoc, append-nil))
