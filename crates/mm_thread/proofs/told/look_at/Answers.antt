use Rattle.std.{proofs.Common.{◌<◌, sym, ap, subst, ◌∙◌, arith}, specs.List.AllByRecursion}
use Rattle.mm_model.specs.{declared.slot.Pending.Pending, Slot.Slot}
use Rattle.mm_thread.proofs.Cores.{group_small, registers_small}
use Rattle.mm_thread.proofs.told.look_at.Goals as goal

pub output-requires : goal.output-requires
output-requires g c =
    let t = c.args.tables.now in
    let r = c.requires in
    omega (arith, ap (λ (s : Slot). s.group) (c.slot.view_is ∙ c.slot-slot.ensures), group_small t r.whole c.args.slot_index r.within)

pub keep_oldest-requires : goal.keep_oldest-requires
keep_oldest-requires g c =
    let t = c.args.tables.now in
    let r = c.requires in
    subst (λ (s : Slot). AllByRecursion (λ (p : Pending). p.reg < 16) s.pending) (sym c.slot-slot.ensures)
    (registers_small t r.whole c.args.slot_index r.within)
