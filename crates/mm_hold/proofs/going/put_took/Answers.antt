use Rattle.std.proofs.Common.{◌≡◌, ◌++◌, sym, ◌∙◌, subst}
use Rattle.std.proofs.lemmas.Result.{on_ok_weaker}
use Rattle.mm_kernel.specs.declared.thread.Thread.{Thread}
use Rattle.mm_kernel.specs.Turns.{with_event}
use Rattle.mm_keep.specs.Searching.{comes_from}
use Rattle.mm_hold.specs.Deeds.{taken}
use Rattle.mm_hold.proofs.Listing.{put_when}
use Rattle.mm_hold.proofs.going.put_took.Goals as goal

pub returns-then-comes_from : goal.returns-then-comes_from
returns-then-comes_from c =
    let new = c.put_taken.new.deeds.items in
    let old = c.args.deeds.now.items in
    on_ok_weaker c.put_taken.result (λ h. put_when (comes_from c.args.origin.now c.args.event.now.0) new old (taken c.args.kernel.now.kept (with_event c.args.next.now c.args.reg c.args.event.now.1.ip c.args.event.now.1.address c.args.event.now.1.value)) (sym c.comes_from.ensures ∙ c.if-comes_from.true) (subst (λ (u : Thread). new ≡ old ++ taken c.args.kernel.now.kept u) c.with_words.ensures h)) c.put_taken.ensures
