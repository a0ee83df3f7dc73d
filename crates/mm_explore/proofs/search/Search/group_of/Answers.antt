use Rattle.std.proofs.Common.{◌≡◌, Some, sym, ap, ◌∙◌}
use Rattle.std.specs.Prelude.{option_copied}
use Rattle.mm_model.specs.{Slot.Slot, State.{Core, slot_at}, Trace.group_of}
use Rattle.mm_explore.proofs.search.Search.group_of.Goals as goal

pub returns-in-Some : goal.returns-in-Some
returns-in-Some c = λ i v h.
    let is : Some c.in-Some.slot.now ≡ slot_at v.machine.core c.args.number =
    sym (ap option_copied c.in-Some.is) ∙ c.slot.ensures ∙ ap (λ (k : Core). slot_at k c.args.number) (c.core.ensures i v h) in
    ap (λ (s : Slot). s.group) c.slot-in-Some.view_is ∙ ap group_of is
