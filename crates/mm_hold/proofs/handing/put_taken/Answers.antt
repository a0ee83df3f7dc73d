use Rattle.std.proofs.Common.{◌≡◌, ◌++◌, List, sym, ◌∙◌, subst}
use Rattle.std.proofs.lemmas.Result.{on_ok_weaker}
use Rattle.mm_kernel.specs.{Segments.Segment, Threads.is_free}
use Rattle.mm_hold.specs.Deeds.{had, left}
use Rattle.mm_hold.proofs.Listing.{put_when}
use Rattle.mm_hold.proofs.handing.put_taken.Goals as goal

pub returns-then-is_free : goal.returns-then-is_free
returns-then-is_free c =
    let new = c.put_freed.new.deeds.items in
    let old = c.args.deeds.now.items in
    on_ok_weaker c.put_freed.result (λ h. put_when (is_free c.args.kernel.now.kept c.args.t.now) new old (had c.args.kernel.now.kept c.args.t.now ++ left c.args.kernel.now.kept c.args.t.now) (sym c.is_free.ensures ∙ c.if-is_free.true) (subst (λ (k : List Segment). new ≡ old ++ (had k c.args.t.now ++ left k c.args.t.now)) c.kept.ensures h)) c.put_freed.ensures
