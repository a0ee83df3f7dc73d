use Rattle.std.proofs.Common.{sym, subst}
use Rattle.std.proofs.lemmas.Result.{on_ok_weaker}
use Rattle.mm_kernel.specs.{declared.thread.Handler.Handler, Derived.fault_facts}
use Rattle.mm_keep.specs.Claims.{AddsFacts}
use Rattle.mm_keep.proofs.follow.fault.Goals as goal

pub returns-in-Kernel : goal.returns-in-Kernel
returns-in-Kernel c =
    on_ok_weaker c.note_fault.result (λ h. subst (λ (n : Handler). AddsFacts c.args.kernel.now.image c.args.kernel.now.kept (fault_facts c.args.kernel.now.kept c.args.t.now n c.args.address.now c.args.value.now)
    c.args.tables.now c.note_fault.new.tables) (sym c.in-Kernel.is) (h c.args.kernel.now.image c.args.kernel.now.kept)) c.note_fault.ensures

pub returns-in-Caller : goal.returns-in-Caller
returns-in-Caller c =
    on_ok_weaker c.show.result (λ h. subst (λ (n : Handler). AddsFacts c.args.kernel.now.image c.args.kernel.now.kept (fault_facts c.args.kernel.now.kept c.args.t.now n c.args.address.now c.args.value.now)
    c.args.tables.now c.show.new.tables) (sym c.in-Caller.is) h) c.show.ensures
