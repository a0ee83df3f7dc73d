use Rattle.std.proofs.Common.{◌∙◌, sym, ap, subst}
use Rattle.mm_model.specs.declared.word_use.WordUse.TheVariants.{Touch}
use Rattle.mm_audit.{specs.{Own.CoversTouched, Walks.outermost}, proofs.Touches.covers_touched}
use Rattle.mm_audit.proofs.touched_words.touched_by.Goals as goal

pub returns : goal.returns
returns c =
    subst (CoversTouched c.args.img.now c.args.groups) (sym (c.in_ok-set.ensures ∙ ap (outermost Touch c.args.groups 0) c.deref.ensures.value))
    (covers_touched c.args.img.now c.in_ok-granted.granted.spans.items c.in_ok-granted.ensures.spans c.args.groups c.ranges.groups.fits)
