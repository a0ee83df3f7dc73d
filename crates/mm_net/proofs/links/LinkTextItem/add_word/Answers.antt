use Rattle.std.proofs.Common.{[], ◌∷◌, ◌++◌, List, refl, sym, subst}
use Rattle.mm_net.specs.{declared.link.Link.Link, Links.AreLinks}
use Rattle.mm_net.proofs.{Parts.true_false, LinkWords.{says_link, says_only}}
use Rattle.mm_net.proofs.links.LinkTextItem.add_word.Goals as goal

pub returns-in_default : goal.returns-in_default
returns-in_default c said says rules = c.in_default.ensures.none refl says.link says.range says.spelled

pub returns-then-not-fits : goal.returns-then-not-fits
returns-then-not-fits c =
    says_only c.args.word.now c.in-Some.more c.args.links.now.items c.in-Some.ensures.some.0 c.in-Some.ensures.some.1
    (λ are. true_false (c.fits.ensures.1 (subst (λ (links : List Link). AreLinks (links ++ c.in-Some.more ∷ [])) (sym c.deref.ensures.value) are)) c.if-not-fits.true)

pub returns : goal.returns
returns c = (
  c.in-Some.more ∷ [],
  says_link c.args.word.now c.in-Some.more c.in-Some.ensures.some.0 c.in-Some.ensures.some.1,
  c.in_ok-push.ensures.items,
  subst AreLinks (sym c.in_ok-push.ensures.items) (subst (λ (links : List Link). AreLinks (links ++ c.in-Some.more ∷ [])) c.deref.ensures.value (c.fits.ensures.0 c.if-not-fits.false)),
)
