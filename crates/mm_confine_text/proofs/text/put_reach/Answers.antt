use Rattle.std.proofs.Common.{sym, ap, subst}
use Rattle.mm_keep_text.specs.Told.{Told}
use Rattle.mm_confine_text.specs.Parts.{AreParties}
use Rattle.mm_confine_text.proofs.Texts.{found_reached}
use Rattle.mm_confine_text.proofs.text.put_reach.Goals as goal

pub returns-in-Found : goal.returns-in-Found
returns-in-Found g c =
    let (whole, wrote, texts) = c.put_groups.ensures in (
      whole,
      wrote,
      λ i kept limit is reach. found_reached i kept limit c.args.answer.now c.in-Found.told c.args.reach.now whole c.in-Found.is is reach
          (λ parties. (rw (c.deref.ensures.value, c.deref-in-Found.ensures.value) at (texts i kept)) (subst (AreParties i kept) (sym (ap (λ (t : Told). t.parties) c.told.view_is)) parties)),
    )
