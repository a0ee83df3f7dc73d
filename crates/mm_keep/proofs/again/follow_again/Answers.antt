use Rattle.std.proofs.Common.{sym, subst}
use Rattle.std.proofs.lemmas.Result.{on_ok_weaker}
use Rattle.mm_kernel.specs.declared.outcome.Outcome.{Outcome}
use Rattle.mm_keep.specs.Claims.{AddsFacts}
use Rattle.mm_keep.specs.Searching.{follows_from}
use Rattle.mm_keep.proofs.again.follow_again.Goals as goal

pub returns-in-Loads : goal.returns-in-Loads
returns-in-Loads c =
    on_ok_weaker c.load_stored.result (λ h. subst (λ (o : Outcome). AddsFacts c.args.kernel.now.image c.args.kernel.now.kept (follows_from c.args.kernel.now.image c.args.kernel.now.kept c.args.tables.now c.args.t.now o) c.args.tables.now c.load_stored.new.tables)
    (sym c.in-Loads.is) h) c.load_stored.ensures

pub returns-in-TakesEvent : goal.returns-in-TakesEvent
returns-in-TakesEvent c =
    on_ok_weaker c.take_events.result (λ h. subst (λ (o : Outcome). AddsFacts c.args.kernel.now.image c.args.kernel.now.kept (follows_from c.args.kernel.now.image c.args.kernel.now.kept c.args.tables.now c.args.t.now o) c.args.tables.now c.take_events.new.tables)
    (sym c.in-TakesEvent.is) h) c.take_events.ensures

pub returns-in-ReadsServed : goal.returns-in-ReadsServed
returns-in-ReadsServed c =
    on_ok_weaker c.read_served.result (λ h. subst (λ (o : Outcome). AddsFacts c.args.kernel.now.image c.args.kernel.now.kept (follows_from c.args.kernel.now.image c.args.kernel.now.kept c.args.tables.now c.args.t.now o) c.args.tables.now c.read_served.new.tables)
    (sym c.in-ReadsServed.is) h) c.read_served.ensures
