use Rattle.std.proofs.Common.{Some, sym, ap, ◌∙◌}
use Rattle.mm_model.specs.{Slot.Slot, State.{Core, slot_at}}
use Rattle.mm_thread.proofs.{RowIndex.apart_in, Index.slot_found}
use Rattle.mm_thread.proofs.state.Core.slot.Goals as goal

pub returns-in-Some : goal.returns-in-Some
returns-in-Some c =
    let t = c.self.inside.tables in
    let p = c.in-Some.slot_index in
    let found = slot_found t (apart_in t c.self.invariant) p c.in-Some.ensures.within in
    ap (λ (x : Slot). Some x) c.slot.ensures ∙ sym found ∙ ap (slot_at t) (c.in-Some.ensures.number ∙ c.from.ensures) ∙ ap (λ (k : Core). slot_at k c.args.n) c.self.view_is
