use Rattle.std.{proofs.Common.{sym, ◌∙◌}, specs.Prelude.find}
use Rattle.mm_link.{specs.Faults.{slot_numbers, is_unhandled}, proofs.Lists.find_next}
use Rattle.mm_link.proofs.threads.check_handlers.Goals as goal

pub loop-slot-preserved : goal.loop-slot-preserved
loop-slot-preserved c =
    let l = c.loop-slot in
    let p = is_unhandled c.args.objects.now in
    find_next p (find p slot_numbers) l.slot 16 l.invariant c.loop-slot-test.true (sym c.is_unhandled.ensures ∙ c.if-is_unhandled.false)
