use Rattle.std.proofs.Common.{◌<◌, ◌^◌, sym, ap, ◌∙◌, arith}
use Rattle.mm_model.{specs.{Slot.Slot, Flags.number_of_flags}, proofs.Bytes.Bitmaps.number_of_flags-flags}
use Rattle.mm_config.proofs.slot_form.empty_mask.Goals as goal

pub returns-clause-value : goal.returns-clause-value
returns-clause-value c =
    let fits : c.slot.inside.empty < 2 ^ 16 = search arith in
    c.from.ensures ∙ sym (number_of_flags-flags 16 c.slot.inside.empty fits) ∙ ap (λ (x : Slot). number_of_flags x.empty) c.slot.view_is
