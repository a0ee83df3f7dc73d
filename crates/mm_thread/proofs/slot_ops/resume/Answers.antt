use Rattle.mm_model.specs.{Slot.Slot, Effect.{plain, resumed_by}, Turn.slot_after}
use Rattle.mm_thread.specs.SlotIndices.{slot_in, with_slot}
use Rattle.mm_thread.proofs.{SlotUpdates.{resume_refused, resume_serves, goes_after, leaves_at}, RowIndex.apart_in}
use Rattle.mm_thread.proofs.slot_ops.resume.Goals as goal

pub returns-in_default : goal.returns-in_default
returns-in_default c = λ m. resume_refused c.args.tables.now m (slot_in c.args.tables.now c.args.slot_index) c.args.ra c.args.how c.in_default.ensures.none

pub returns : goal.returns
returns c = λ m.
    let t = c.args.tables.now in
    let r = c.requires in
    let p = c.args.slot_index in
    let q = c.in-Some.of in
    let o = resumed_by c.args.how (slot_in t q) in
    leaves_at t m (slot_in t p) _ (with_slot (with_slot t q o) p (slot_after (slot_in t p) (plain (slot_in t p)))) c.advance.new.self _
    (resume_serves t (apart_in t r.whole) p r.within q c.in-Some.ensures.within c.in-Some.ensures.other m c.args.ra c.args.how c.in-Some.ensures.served)
    (goes_after t q p o (λ (x : Slot). slot_after x (plain x)) c.in-Some.ensures.other c.resume.new.self c.advance.new.self c.resume.ensures c.advance.ensures)
