use Rattle.std.proofs.Common.{◌≡◌, ◌^◌, ◌<◌, rules, sym, ap, ◌∙◌, append_assoc}
use Rattle.mm_model.{specs.{Slot.Slot, Flags.number_of_flags}, proofs.Bytes.Bitmaps.number_of_flags-flags}
use Rattle.mm_checkpoint.proofs.writing.put_registers.Goals as goal

pub returns : goal.returns
returns c =
    let s = c.args.slot.now in
    let regs = ap (λ (x : Slot). x.regs) c.slot.view_is in
    let fits : c.slot.inside.empty < 2 ^ 16 = search rules in
    let mask : c.slot.inside.empty ≡ number_of_flags s.empty =
    sym (number_of_flags-flags 16 c.slot.inside.empty fits) ∙ ap (λ (x : Slot). number_of_flags x.empty) c.slot.view_is in
    rw (
      c.in_ok-put_words.ensures,
      c.in_ok-extend_from_slice-2.ensures.items,
      c.to_be_bytes-2.ensures,
      mask,
      c.in_ok-extend_from_slice.ensures.items,
      c.to_be_bytes.ensures,
      c.tags_of.ensures.value,
      regs,
    ) (simp append_assoc)
