use Rattle.std.proofs.Common.{sym, ap, ◌∙◌}
use Rattle.mm_model.specs.Slot.{Slot}
use Rattle.mm_kernel.specs.Threads.{is_kernel}
use Rattle.mm_hold.proofs.PartySets.{slot_kernel, slot_caller}
use Rattle.mm_hold.proofs.sharing.share_slot.Goals as goal

pub returns-then-is_kernel : goal.returns-then-is_kernel
returns-then-is_kernel c =
    let i = c.args.kernel.now.image in
    let kept = c.args.kernel.now.kept in
    let same = ap (λ (t : Slot). is_kernel i kept t.number) (sym c.slot.view_is) in
    slot_kernel i kept c.args.conduct.now c.args.slot.now c.args.sharing.now c.share_kernel.new.sharing (same ∙ sym c.is_kernel.ensures ∙ c.if-is_kernel.true) c.share_kernel.ensures

pub returns-else-is_kernel : goal.returns-else-is_kernel
returns-else-is_kernel c =
    let i = c.args.kernel.now.image in
    let kept = c.args.kernel.now.kept in
    let same = ap (λ (t : Slot). is_kernel i kept t.number) (sym c.slot.view_is) in
    slot_caller i kept c.args.conduct.now c.args.slot.now c.args.sharing.now c.share_served.new.sharing (same ∙ sym c.is_kernel.ensures ∙ c.if-is_kernel.false) c.share_served.ensures
