use Rattle.std.proofs.Common.{◌≡◌, ◌<◌, Some, length, ap, sym, ◌∙◌, arith}
use Rattle.mm_model.specs.{State.slot_at, Turn.port_of}
use Rattle.mm_thread.specs.SlotIndices.{slot_in}
use Rattle.mm_thread.proofs.{Index.slot_found, RowIndex.apart_in, Items.{port-slot, if_some_both}}
use Rattle.mm_thread.proofs.item.port_of.Goals as goal

pub returns-then-item-ge128-clause-port : goal.returns-then-item-ge128-clause-port
returns-then-item-ge128-clause-port c =
    let t = c.args.tables.now in
    let is = port-slot t c.args.item (sym c.split.ensures ∙ c.if-split.true) (omega arith) in
    if_some_both c.find_slot.result (λ p. p < length t.rows) (λ p. (slot_in t p).number ≡ c.from.result) (λ p. port_of t c.args.item ≡ Some (slot_in t p))
    (λ p within number. is ∙ ap (slot_at t) (sym (number ∙ c.from.ensures)) ∙ slot_found t (apart_in t c.requires.whole) p within)
    c.find_slot.ensures.within c.find_slot.ensures.number
