use Rattle.std.{proofs.Common.{◌<◌, length, ap, ◌∙◌, arith}, specs.Int.bit_at}
use Rattle.mm_model.specs.{Flags.one_if, Turn.is_running, Slot.Slot, State.Core}
use Rattle.mm_thread.{specs.SlotIndices.slot_in, proofs.RunningSlots.{after_number, after_running, plain_goes, slot_there, known_set}}
use Rattle.mm_thread.proofs.tables.Tables.issue.Goals as goal

pub ran_on-self-inside-requires-clause-runs : goal.ran_on-self-inside-requires-clause-runs
ran_on-self-inside-requires-clause-runs c = ap (λ (s : Slot). is_running s.state) c.issue.ensures ∙ after_running _ _ (plain_goes c.row.inside.slot)

pub ran_on-self-inside-requires-clause-ran : goal.ran_on-self-inside-requires-clause-ran
ran_on-self-inside-requires-clause-ran c =
    let rows = c.self.inside.rows.items in
    let within : c.args.slot_index < length rows = omega (arith, ap (λ (k : Core). length k.rows) c.self.view_is) in
    let here = slot_there rows c.args.slot_index within _ _ (c.row.view_is ∙ c.index_mut-row.ensures.value) in
    ap (bit_at c.self.inside.runners) (ap (λ (s : Slot). s.number) c.issue.ensures ∙ after_number _ _
    ∙ ap (λ (s : Slot). s.number) here) ∙ c.self.invariant.running.bits.each c.args.slot_index within
    ∙ ap one_if (ap (λ (k : Core). is_running (slot_in k c.args.slot_index).state) c.self.view_is ∙ c.requires.runs)

pub invariant_of-self : goal.invariant_of-self
invariant_of-self c =
    let rows = c.self.inside.rows.items in
    let within : c.args.slot_index < length rows = omega (arith, ap (λ (k : Core). length k.rows) c.self.view_is) in
    let here = slot_there rows c.args.slot_index within _ _ (c.row.view_is ∙ c.index_mut-row.ensures.value) in
    known_set rows c.args.slot_index within _ (ap (λ (s : Slot). s.number) c.issue.ensures ∙ after_number _ _ ∙ ap (λ (s : Slot). s.number) here) _ _ _ c.self.invariant
    c.ran_on-self-inside.ensures
