use Rattle.std.proofs.Common.{◌/◌, ◌%◌, [], ap, ◌∙◌}
use Rattle.mm_model.specs.Slot.{Slot}
use Rattle.mm_config.{specs.Forms.{register_flags, slot_from}, proofs.Taking.{registers_read, registers_left, slot_taken}}
use Rattle.mm_config.proofs.slot_form.take_slot.Goals as goal

pub returns : goal.returns
unfolding register_flags
returns c =
    let ns = c.args.reader.now in
    let masks = c.next-masks.result in
    let n3 = c.next-ip.new.self in
    let base = c.base.inside.regs in
    let low = masks % 65536 in
    let high = masks / 65536 in
    let words = registers_read base [] c.take_words.new.regs low high n3 c.take_words.new.reader c.base.invariant.registers c.take_words.ensures.words in
    let rest = registers_left base [] c.take_words.new.regs low high n3 c.take_words.new.reader c.base.invariant.registers c.take_words.ensures.rest in
    slot_taken _ ns c.next-head.new.self c.next-masks.new.self n3 c.take_words.new.reader c.next-head.result masks c.next-ip.result c.few_loads.result
    c.take_words.new.regs c.ip_of-slot-inside.result c.state_at-slot-inside.result c.take_loads.new.loads.items
    c.next-head.ensures.number c.next-head.ensures.rest c.next-masks.ensures.number c.next-masks.ensures.rest c.next-ip.ensures.number c.next-ip.ensures.rest
    words rest c.ip_of-slot-inside.ensures.pointer c.state_at-slot-inside.ensures c.few_loads.ensures.value c.take_loads.ensures.loads
    ∙ ap (λ (b : Slot). slot_from b ns) c.base.view_is
