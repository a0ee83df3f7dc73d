use Rattle.std.proofs.Common.{◌≡◌, ℕ, sym, ap, ◌∙◌}
use Rattle.mm_word.specs.Word.{word_bits}
use Rattle.mm_model.specs.{Slot.{Slot, register}, State.slot_at, Turn.{is_handler, is_taken}}
use Rattle.mm_thread.specs.SlotIndices.{slot_in}
use Rattle.mm_thread.proofs.{Index.slot_found, SlotUpdates.{served-is, served-unhandled, served-untaken}}
use Rattle.mm_thread.proofs.RowIndex.{apart_in}
use Rattle.mm_thread.proofs.slot_ops.served.Goals.{else-is_handled_by-via-then-is_handled_by+else-is_taken}
use Rattle.mm_thread.proofs.slot_ops.served.Goals.{else-is_handled_by-via-else-is_handled_by}
use Rattle.mm_thread.proofs.slot_ops.served.Goals as goal

pub returns-then-is_taken-clause-served : goal.returns-then-is_taken-clause-served
returns-then-is_taken-clause-served c =
    let t = c.args.tables.now in
    let r = c.requires in
    let q = c.in_ok-of.of in
    let s = slot_in t c.args.slot_index in
    let number : c.slot.inside.number ≡ s.number = ap (λ (x : Slot). x.number) (c.slot.view_is ∙ c.slot-slot.ensures) in
    let named = c.bits.ensures.value ∙ ap word_bits (c.word_of.ensures ∙ ap (λ (x : Slot). register x c.args.ra) c.slot-slot.ensures) in
    let found = ap (slot_at t) (sym (c.in_ok-of.ensures.number ∙ named)) ∙ slot_found t (apart_in t r.whole) q c.in_ok-of.ensures.within in
    let handles = ap (λ (n : ℕ). is_handler n (slot_in t q).handler) (sym number)
    ∙ ap (λ (x : Slot). is_handler c.slot.inside.number x.handler) (sym c.slot-other.ensures)
    ∙ sym c.is_handled_by.ensures ∙ c.if-is_handled_by.true in
    let taken = ap (λ (x : Slot). is_taken x.state) (sym c.slot-other.ensures) ∙ sym c.is_taken.ensures ∙ c.if-is_taken.true in
    served-is t s.number (word_bits (register s c.args.ra)) (slot_in t q) found handles taken

pub returns-else-is_handled_by-clause-none : goal.returns-else-is_handled_by-clause-none
returns-else-is_handled_by-clause-none c =
    let t = c.args.tables.now in
    let r = c.requires in
    let q = c.in_ok-of.of in
    let s = slot_in t c.args.slot_index in
    let number : c.slot.inside.number ≡ s.number = ap (λ (x : Slot). x.number) (c.slot.view_is ∙ c.slot-slot.ensures) in
    let named = c.bits.ensures.value ∙ ap word_bits (c.word_of.ensures ∙ ap (λ (x : Slot). register x c.args.ra) c.slot-slot.ensures) in
    let found = ap (slot_at t) (sym (c.in_ok-of.ensures.number ∙ named)) ∙ slot_found t (apart_in t r.whole) q c.in_ok-of.ensures.within in
    elim c.else-is_handled_by.branch [
      | else-is_handled_by-via-then-is_handled_by+else-is_taken w ↦
          served-untaken t s.number (word_bits (register s c.args.ra)) (slot_in t q) found
          (ap (λ (x : Slot). is_taken x.state) (sym c.slot-other.ensures) ∙ sym w.is_taken.ensures
          ∙ w.if-is_taken.false)
      | else-is_handled_by-via-else-is_handled_by w ↦
          served-unhandled t s.number (word_bits (register s c.args.ra)) (slot_in t q) found
          (ap (λ (n : ℕ). is_handler n (slot_in t q).handler) (sym number)
          ∙ ap (λ (x : Slot). is_handler c.slot.inside.number x.handler) (sym c.slot-other.ensures)
          ∙ sym c.is_handled_by.ensures ∙ w.if-is_handled_by.false)
    ]
