use Rattle.std.proofs.Common.{sym, subst}
use Rattle.mm_word.specs.Perm.{can_store}
use Rattle.mm_model.specs.declared.word_use.WordUse.TheVariants.{Write}
use Rattle.mm_audit.specs.Walks.{outermost_of}
use Rattle.mm_audit.proofs.GroupSegments.{segments_of}
use Rattle.mm_confine.specs.Reach.{Reaches}
use Rattle.mm_hold.specs.{Holdings.{AreHoldings}, Reached.MaximalSegments}
use Rattle.mm_hold.proofs.{Reaching.reaches_small, Maximal.maximal_reached}
use Rattle.mm_hold.proofs.holdings.Holdings.written.Goals as goal

pub returns : goal.returns
returns c i kept are =
    let g = c.args.group in
    let own = subst (AreHoldings i kept) (sym c.self.view_is) are in
    let spans = c.self.inside.survey.spans in
    subst (MaximalSegments i kept g can_store) (sym c.written.ensures.outermost)
    (maximal_reached i kept g can_store (outermost_of Write g spans) (segments_of (Reaches i kept) (reaches_small i kept own.image) Write g spans own.spans))
