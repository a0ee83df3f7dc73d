use Rattle.std.proofs.Common.{sym, subst}
use Rattle.std.proofs.lemmas.Result.{on_ok_weaker}
use Rattle.std.specs.List.{flat_map}
use Rattle.mm_isa.specs.declared.instr.How.{How}
use Rattle.mm_kernel.specs.declared.thread.Thread.{Thread}
use Rattle.mm_kernel.specs.{Facts.take_up, Derived.{on_after, resumed}}
use Rattle.mm_keep.specs.Claims.{AddsFacts}
use Rattle.mm_keep.proofs.Loops.{facts_single}
use Rattle.mm_keep.proofs.again.resume_as.Goals as goal

pub returns-in-Retry : goal.returns-in-Retry
returns-in-Retry c =
    let to = c.take_up.new.self in
    on_ok_weaker c.take_up.result (λ h. subst (λ (w : How). AddsFacts c.args.kernel.now.image c.args.kernel.now.kept (flat_map (take_up c.args.kernel.now.image c.args.kernel.now.kept) (resumed w c.args.u.now)) c.args.tables.now to) (sym c.in-Retry.is)
    (facts_single c.args.kernel.now.image c.args.kernel.now.kept (take_up c.args.kernel.now.image c.args.kernel.now.kept) c.args.u.now c.args.tables.now to h)) c.take_up.ensures

pub returns-in-Skip : goal.returns-in-Skip
returns-in-Skip c =
    let to = c.take_up-in-Skip.new.self in
    on_ok_weaker c.take_up-in-Skip.result (λ h. subst (λ (w : How). AddsFacts c.args.kernel.now.image c.args.kernel.now.kept (flat_map (take_up c.args.kernel.now.image c.args.kernel.now.kept) (resumed w c.args.u.now)) c.args.tables.now to) (sym c.in-Skip.is)
    (facts_single c.args.kernel.now.image c.args.kernel.now.kept (take_up c.args.kernel.now.image c.args.kernel.now.kept) (on_after c.args.u.now) c.args.tables.now to (subst (λ (t : Thread). AddsFacts c.args.kernel.now.image c.args.kernel.now.kept (take_up c.args.kernel.now.image c.args.kernel.now.kept t) c.args.tables.now to) c.on_after.ensures h))) c.take_up-in-Skip.ensures
