use Rattle.std.proofs.Common.{◌≡◌, ◌++◌, sym, ◌∙◌, subst}
use Rattle.std.proofs.lemmas.Result.{on_ok_weaker}
use Rattle.mm_kernel.specs.declared.thread.Thread.{Thread}
use Rattle.mm_kernel.specs.{Segments.lies_in, Threads.with_form}
use Rattle.mm_hold.specs.Deeds.{taken}
use Rattle.mm_hold.proofs.Listing.{put_when}
use Rattle.mm_hold.proofs.going.put_loaded_with.Goals as goal

pub returns-then-lies_in : goal.returns-then-lies_in
returns-then-lies_in c =
    let new = c.put_taken.new.deeds.items in
    let old = c.args.deeds.now.items in
    on_ok_weaker c.put_taken.result (λ h. put_when (lies_in c.args.held.now.0 c.args.part) new old (taken c.args.kernel.now.kept (with_form c.args.next.now c.args.reg c.args.held.now.1)) (sym c.lies_in.ensures ∙ c.if-lies_in.true) (subst (λ (u : Thread). new ≡ old ++ taken c.args.kernel.now.kept u) c.with_form.ensures h)) c.put_taken.ensures
