use Rattle.std.{proofs.Common.{◌≡◌, ◌<◌, ◌∙◌, List, length, sym, ap, subst}, specs.List.AllByRecursion}
use Rattle.mm_model.specs.{declared.slot.Pending.Pending, Slot.Slot}
use Rattle.mm_machine.proofs.Pendings.{sixteen_flags, pending_all, pending_small}
use Rattle.mm_machine.proofs.validate.is_pending.Goals as goal

abbrev AreSmall : List Pending → Type 0
AreSmall ps = AllByRecursion (λ (p : Pending). p.reg < 16) ps

pub returns-then-are_registers : goal.returns-then-are_registers
returns-then-are_registers c =
    let s = c.args.slot.now in
    let long : length s.empty ≡ 16 = ap (λ (x : Slot). length x.empty) (sym c.slot.view_is) ∙ sixteen_flags c.slot.inside.empty in
    let pending : c.deref.result.now ≡ s.pending = c.deref.ensures.0 ∙ ap (λ (x : Slot). x.pending) c.slot.view_is in
    (λ t. pending_all s long (subst AreSmall pending (c.are_registers.ensures.0 c.if-are_registers.true)) (c.registers_stand.ensures.0 t), λ h. c.registers_stand.ensures.1 (λ r lt. h r))

pub returns-else-are_registers : goal.returns-else-are_registers
returns-else-are_registers c =
    let s = c.args.slot.now in
    let long : length s.empty ≡ 16 = ap (λ (x : Slot). length x.empty) (sym c.slot.view_is) ∙ sixteen_flags c.slot.inside.empty in
    let pending : c.deref.result.now ≡ s.pending = c.deref.ensures.0 ∙ ap (λ (x : Slot). x.pending) c.slot.view_is in
    (λ t. absurd (let no = c.if-are_registers.false in cc), λ h. c.are_registers.ensures.1 (subst AreSmall (sym pending) (pending_small s long h)))
