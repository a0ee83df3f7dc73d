use Rattle.std.proofs.Common.{◌∙◌, [], ◌∷◌, ◌++◌, sym, arith}
use Rattle.mm_net.specs.Links.{AreLinks}
use Rattle.mm_net.proofs.Ends.{one_more, own_end, same_ends, ends_same, taken, put_there, says_not, never}
use Rattle.mm_net.proofs.links.fits.Goals.{else-more-via-then-more+else-more-2, else-more-via-else-more}
use Rattle.mm_net.proofs.links.fits.Goals as goal

pub returns-then-more-2 : goal.returns-then-more-2
returns-then-more-2 c = never (AreLinks (c.args.links.now ++ c.args.more ∷ [])) (own_end c.args.links.now c.args.more (same_ends c.args.more c.if-more.true c.if-more-2.true))

pub returns-then-is_end : goal.returns-then-is_end
returns-then-is_end c = never (AreLinks (c.args.links.now ++ c.args.more ∷ [])) (taken c.args.links.now c.args.more (sym c.is_end.ensures ∙ c.if-is_end.true))

pub returns : goal.returns
returns c =
    says_not c.is_end-2.result (AreLinks (c.args.links.now ++ c.args.more ∷ []))
    (λ free. one_more c.args.links.now c.args.more c.requires.links c.requires.more (omega arith)
    (λ same. elim c.else-more.branch [
      | else-more-via-then-more+else-more-2 w ↦ w.if-more-2.false
          (ends_same c.args.more same).1
      | else-more-via-else-more w ↦ w.if-more.false (ends_same c.args.more same).0
    ])
    (sym c.is_end.ensures ∙ c.if-is_end.false) (sym c.is_end-2.ensures ∙ free))
    (λ there. put_there c.args.links.now c.args.more (sym c.is_end-2.ensures ∙ there))
