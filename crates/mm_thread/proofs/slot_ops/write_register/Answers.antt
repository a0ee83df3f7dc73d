use Rattle.std.proofs.Common.{set, sym, ap, ◌∙◌}
use Rattle.mm_word.specs.declared.word.Word.{Word}
use Rattle.mm_model.specs.{Slot.{Slot, register}, Effect.{plain, delivered}, Turn.slot_after}
use Rattle.mm_thread.specs.SlotIndices.{slot_in, with_slot}
use Rattle.mm_thread.proofs.Cores.{registers_small}
use Rattle.mm_thread.proofs.SlotUpdates.{write_refused, write_waits, write_writes, goes_after, leaves_at}
use Rattle.mm_thread.proofs.RowIndex.{apart_in}
use Rattle.mm_thread.proofs.slot_ops.write_register.Goals as goal

pub returns-in_default : goal.returns-in_default
returns-in_default c = λ m. write_refused c.args.tables.now m (slot_in c.args.tables.now c.args.slot_index) c.args.ra c.args.rb c.args.reg c.in_default.ensures.none

pub deliver-register-requires-clause-registers : goal.deliver-register-requires-clause-registers
deliver-register-requires-clause-registers c =
    let t = c.args.tables.now in
    let r = c.requires in
    registers_small t r.whole c.in-Some.of c.in-Some.ensures.within

pub returns-then-lacks : goal.returns-then-lacks
returns-then-lacks c = λ m.
    let t = c.args.tables.now in
    let r = c.requires in
    let p = c.args.slot_index in
    let q = c.in-Some.of in
    leaves_at t m (slot_in t p) _ (with_slot t q (delivered (slot_in t q))) c.deliver-register.new.self _
    (write_waits t (apart_in t r.whole) p r.within q c.in-Some.ensures.within c.in-Some.ensures.other m c.args.ra c.args.rb c.args.reg c.in-Some.ensures.served (sym c.lacks.ensures ∙ c.if-lacks.true))
    c.deliver-register.ensures.slot

pub returns : goal.returns
returns c = λ m.
    let t = c.args.tables.now in
    let r = c.requires in
    let p = c.args.slot_index in
    let q = c.in-Some.of in
    let s = slot_in t p in
    let of = slot_in t q in
    let word = c.word_of-word.ensures ∙ ap (λ (x : Slot). register x c.args.rb) c.slot.ensures in
    let o : Slot = record of { regs = set of.regs c.args.reg (register s c.args.rb) } in
    let written = c.set_register.ensures ∙ ap (λ (w : Word). with_slot t q (record of { regs = set of.regs c.args.reg w })) word in
    leaves_at t m s _ (with_slot (with_slot t q o) p (slot_after s (plain s))) c.advance.new.self _
    (write_writes t (apart_in t r.whole) p r.within q c.in-Some.ensures.within c.in-Some.ensures.other m c.args.ra
    c.args.rb c.args.reg c.in-Some.ensures.served (sym c.lacks.ensures ∙ c.if-lacks.false))
    (goes_after t q p o (λ (x : Slot). slot_after x (plain x)) c.in-Some.ensures.other c.set_register.new.self c.advance.new.self written c.advance.ensures)
