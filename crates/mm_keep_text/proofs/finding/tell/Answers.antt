use Rattle.std.proofs.Common.{◌++◌, map, ap, ◌∙◌, subst}
use Rattle.std.specs.List.{AllZip}
use Rattle.mm_kernel.specs.declared.thread.Origin.TheVariants.{Door, Slot as OfSlot}
use Rattle.mm_keep_text.{specs.Answers.{IsParty, kernel_slots}, proofs.Telling.told_is}
use Rattle.mm_keep_text.proofs.finding.tell.Goals as goal

pub returns : goal.returns
returns c =
    let i = c.args.kernel.now.image in
    let kept = c.args.kernel.now.kept in
    told_is i kept c.args.tables.now c.requires c.in_ok-doors.doors.items c.in_ok-doors.ensures.ascend c.in_ok-doors.ensures.each c.in_ok-origins.origins.items
    (c.in_ok-origins.ensures ∙ ap (λ ds. map Door ds ++ map OfSlot (kernel_slots i kept)) c.deref.ensures.value)
    c.in_ok-parties.parties.items (subst (λ os. AllZip (IsParty i kept) os c.in_ok-parties.parties.items) c.deref-2.ensures.value c.in_ok-parties.ensures)
    c.in_ok-code.code.items c.in_ok-code.ensures
    c.in_ok-cells.cells.items c.in_ok-cells.ensures.ascend c.in_ok-cells.ensures.each
    c.in_ok-leaks.leaks.items c.in_ok-leaks.ensures.ascend c.in_ok-leaks.ensures.each
