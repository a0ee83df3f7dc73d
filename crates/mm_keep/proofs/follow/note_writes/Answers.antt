use Rattle.std.proofs.Common.{sym, subst}
use Rattle.std.proofs.lemmas.Result.{on_ok_weaker}
use Rattle.mm_kernel.specs.declared.thread.Origin.{Origin}
use Rattle.mm_keep.specs.Claims.{Adds}
use Rattle.mm_keep.specs.Searching.{WritesBy}
use Rattle.mm_keep.proofs.follow.note_writes.Goals as goal

pub returns-in-Slot : goal.returns-in-Slot
returns-in-Slot c =
    on_ok_weaker c.add_writes.result (λ h i kept. subst (λ (o : Origin). Adds i kept (WritesBy o c.args.reg c.args.form.now) c.args.tables.now c.add_writes.new.self) (sym c.in-Slot.is) (h i kept))
    c.add_writes.ensures
