use Rattle.std.{proofs.Common.{◌≡◌, ◌<◌, Bool, Some, refl, sym, ap, subst, ◌∙◌}, specs.List.AllByRecursion}
use Rattle.mm_model.specs.{declared.slot.Pending.Pending, Slot.Slot, State.slot_at}
use Rattle.mm_thread.specs.{SlotIndices.slot_in, Told.{was_of, other_registers}}
use Rattle.mm_thread.proofs.{Cores.registers_small, Index.slot_found, RowIndex.apart_in}
use Rattle.mm_thread.proofs.told.slot_there.Goals as goal

pub keep_other-requires : goal.keep_other-requires
keep_other-requires c =
    let t = c.args.tables.now in
    subst (λ (s : Slot). AllByRecursion (λ (p : Pending). p.reg < 16) s.pending) (sym c.slot.ensures)
    (registers_small t c.requires.whole c.in-Some.slot_index c.in-Some.ensures.within)

pub returns-in-Some-clause-beside : goal.returns-in-Some-clause-beside
returns-in-Some-clause-beside c =
    let t = c.args.tables.now in
    let p = c.in-Some.slot_index in
    let found : slot_at t c.args.number ≡ Some (slot_in t p) = ap (slot_at t) (sym c.in-Some.ensures.number) ∙ slot_found t (apart_in t c.requires.whole) p c.in-Some.ensures.within in
    rw found refl

pub returns-in-Some-clause-other : goal.returns-in-Some-clause-other
returns-in-Some-clause-other c =
    let t = c.args.tables.now in
    let p = c.in-Some.slot_index in
    let i = c.args.instr.now in
    let found : slot_at t c.args.number ≡ Some (slot_in t p) = ap (slot_at t) (sym c.in-Some.ensures.number) ∙ slot_found t (apart_in t c.requires.whole) p c.in-Some.ensures.within in
    rw found
    (c.keep_other.ensures ∙ ap (λ (s : Slot). was_of s (other_registers c.split.result i s)) c.slot.ensures
    ∙ ap (λ (b : Bool). was_of (slot_in t p) (other_registers b i (slot_in t p))) c.split.ensures)
