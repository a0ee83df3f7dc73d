use Rattle.std.proofs.Common.{sym, subst}
use Rattle.std.proofs.lemmas.Result.{on_ok_weaker}
use Rattle.mm_kernel.specs.declared.outcome.Outcome.{Outcome}
use Rattle.mm_keep.specs.Claims.{Adds}
use Rattle.mm_keep.specs.Searching.{FollowsAtOnce}
use Rattle.mm_keep.proofs.Claims.{facts_none}
use Rattle.mm_keep.proofs.follow.follow.Goals as goal

pub returns-in-Goes : goal.returns-in-Goes
returns-in-Goes c =
    on_ok_weaker c.take_up.result (λ h. subst (λ (o : Outcome). Adds c.args.kernel.now.image c.args.kernel.now.kept (FollowsAtOnce c.args.kernel.now.image c.args.kernel.now.kept c.args.first.now c.args.t.now o) c.args.tables.now c.take_up.new.self)
    (sym c.in-Goes.is) h) c.take_up.ensures

pub returns-in-Loads : goal.returns-in-Loads
returns-in-Loads c =
    on_ok_weaker c.load_first.result (λ h. subst (λ (o : Outcome). Adds c.args.kernel.now.image c.args.kernel.now.kept (FollowsAtOnce c.args.kernel.now.image c.args.kernel.now.kept c.args.first.now c.args.t.now o) c.args.tables.now c.load_first.new.tables)
    (sym c.in-Loads.is) h) c.load_first.ensures

pub returns-in-Stores : goal.returns-in-Stores
returns-in-Stores c =
    on_ok_weaker c.store.result (λ h. subst (λ (o : Outcome). Adds c.args.kernel.now.image c.args.kernel.now.kept (FollowsAtOnce c.args.kernel.now.image c.args.kernel.now.kept c.args.first.now c.args.t.now o) c.args.tables.now c.store.new.tables)
    (sym c.in-Stores.is) h) c.store.ensures

pub returns-in-HandsOut : goal.returns-in-HandsOut
returns-in-HandsOut c =
    on_ok_weaker c.hand_out.result (λ h. subst (λ (o : Outcome). Adds c.args.kernel.now.image c.args.kernel.now.kept (FollowsAtOnce c.args.kernel.now.image c.args.kernel.now.kept c.args.first.now c.args.t.now o) c.args.tables.now c.hand_out.new.self)
    (sym c.in-HandsOut.is) h) c.hand_out.ensures

pub returns-in-Leaves : goal.returns-in-Leaves
returns-in-Leaves c =
    on_ok_weaker c.leave.result (λ h. subst (λ (o : Outcome). Adds c.args.kernel.now.image c.args.kernel.now.kept (FollowsAtOnce c.args.kernel.now.image c.args.kernel.now.kept c.args.first.now c.args.t.now o) c.args.tables.now c.leave.new.tables)
    (sym c.in-Leaves.is) h) c.leave.ensures

pub returns-in-Leaks : goal.returns-in-Leaks
returns-in-Leaks c =
    on_ok_weaker c.add_leak.result (λ h. subst (λ (o : Outcome). Adds c.args.kernel.now.image c.args.kernel.now.kept (FollowsAtOnce c.args.kernel.now.image c.args.kernel.now.kept c.args.first.now c.args.t.now o) c.args.tables.now c.add_leak.new.self)
    (sym c.in-Leaks.is) (h c.args.kernel.now.image c.args.kernel.now.kept)) c.add_leak.ensures

pub returns-in-Faults : goal.returns-in-Faults
returns-in-Faults c =
    on_ok_weaker c.fault.result (λ h. subst (λ (o : Outcome). Adds c.args.kernel.now.image c.args.kernel.now.kept (FollowsAtOnce c.args.kernel.now.image c.args.kernel.now.kept c.args.first.now c.args.t.now o) c.args.tables.now c.fault.new.tables)
    (sym c.in-Faults.is) h) c.fault.ensures

pub returns-in-TakesEvent : goal.returns-in-TakesEvent
returns-in-TakesEvent c =
    subst (λ (o : Outcome). Adds c.args.kernel.now.image c.args.kernel.now.kept (FollowsAtOnce c.args.kernel.now.image c.args.kernel.now.kept c.args.first.now c.args.t.now o) c.args.tables.now c.args.tables.now)
    (sym c.in-TakesEvent.is) (facts_none c.args.kernel.now.image c.args.kernel.now.kept c.args.tables.now)

pub returns-in-Resumes : goal.returns-in-Resumes
returns-in-Resumes c =
    on_ok_weaker c.note_resumes.result (λ h. subst (λ (o : Outcome). Adds c.args.kernel.now.image c.args.kernel.now.kept (FollowsAtOnce c.args.kernel.now.image c.args.kernel.now.kept c.args.first.now c.args.t.now o) c.args.tables.now c.note_resumes.new.tables)
    (sym c.in-Resumes.is) (h c.args.kernel.now.image c.args.kernel.now.kept)) c.note_resumes.ensures

pub returns-in-ReadsServed : goal.returns-in-ReadsServed
returns-in-ReadsServed c =
    subst (λ (o : Outcome). Adds c.args.kernel.now.image c.args.kernel.now.kept (FollowsAtOnce c.args.kernel.now.image c.args.kernel.now.kept c.args.first.now c.args.t.now o) c.args.tables.now c.args.tables.now)
    (sym c.in-ReadsServed.is) (facts_none c.args.kernel.now.image c.args.kernel.now.kept c.args.tables.now)

pub returns-in-WritesServed : goal.returns-in-WritesServed
returns-in-WritesServed c =
    on_ok_weaker c.note_writes.result (λ h. subst (λ (o : Outcome). Adds c.args.kernel.now.image c.args.kernel.now.kept (FollowsAtOnce c.args.kernel.now.image c.args.kernel.now.kept c.args.first.now c.args.t.now o) c.args.tables.now c.note_writes.new.tables)
    (sym c.in-WritesServed.is) (h c.args.kernel.now.image c.args.kernel.now.kept)) c.note_writes.ensures
