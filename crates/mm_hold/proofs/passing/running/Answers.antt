use Rattle.std.proofs.Common.{sym, subst}
use Rattle.mm_hold.specs.{Parties.Is, Passing.Runs}
use Rattle.mm_hold.proofs.Passes.{slot_runs}
use Rattle.mm_hold.proofs.passing.running.Goals as goal

pub returns-then-kind-eq0 : goal.returns-then-kind-eq0
returns-then-kind-eq0 c =
    subst (λ k. Is c.running_door.result (Runs c.args.kernel.now.image c.args.kernel.now.kept c.args.keys.now c.args.marks.now (k, c.args.origin.1))) (sym c.if-kind-eq0.true) c.running_door.ensures

pub returns-then-value-lt64 : goal.returns-then-value-lt64
returns-then-value-lt64 c =
    subst (λ k. Is (record { groups = 0; slots = c.kernel_mask.result }) (Runs c.args.kernel.now.image c.args.kernel.now.kept c.args.keys.now c.args.marks.now (k, c.args.origin.1))) (sym c.if-kind-eq1.true)
    (slot_runs c.args.kernel.now.image c.args.kernel.now.kept c.args.keys.now c.args.marks.now c.args.origin.1 c.kernel_mask.result c.if-value-lt64.true c.kernel_mask.ensures)
