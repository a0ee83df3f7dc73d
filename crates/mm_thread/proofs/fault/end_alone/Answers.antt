use Rattle.std.proofs.Common.{ap, sym, ◌∙◌, Some}
use Rattle.mm_word.specs.declared.cause.Cause.{Cause}
use Rattle.mm_model.specs.{declared.slot.SlotState.TheVariants.Halted, Turn.{is_sync, stood}}
use Rattle.mm_thread.specs.SlotIndices.{slot_in, with_slot}
use Rattle.mm_thread.proofs.{Cores.{faulted-waits, faulted-halts}, RowIndex.apart_in}
use Rattle.mm_thread.proofs.fault.end_alone.Goals as goal

pub returns-then-is_sync-clause-core : goal.returns-then-is_sync-clause-core
returns-then-is_sync-clause-core c = λ e same.
    let a = c.args in
    let r = c.requires.can in
    c.stand.ensures ∙ faulted-waits a.tables.now (apart_in a.tables.now r.whole) a.slot_index r.within e (ap is_sync same ∙ sym c.is_sync.ensures ∙ c.if-is_sync.true)

pub returns-else-is_sync-clause-core : goal.returns-else-is_sync-clause-core
returns-else-is_sync-clause-core c = λ e same.
    let a = c.args in
    let r = c.requires.can in
    let s = slot_in a.tables.now a.slot_index in
    c.stand-else-is_sync.ensures
    ∙ ap (λ (k : Cause). with_slot a.tables.now a.slot_index (stood s (Halted (Some k)))) (sym same)
    ∙ faulted-halts a.tables.now (apart_in a.tables.now r.whole) a.slot_index r.within e (ap is_sync same ∙ sym c.is_sync.ensures ∙ c.if-is_sync.false)
