use Rattle.std.proofs.Common.{◌∙◌, map, sym, ap, subst}
use Rattle.mm_audit.proofs.OwnPages.{same_image}
use Rattle.mm_model.specs.Spelling.{IsImage}
use Rattle.mm_sweep.{specs.Swept.{swept_slot, swept_page}, proofs.SweptImages.swept_is_image}
use Rattle.mm_sweep.proofs.sweeping.swept_image.Goals as goal

pub of-requires : goal.of-requires
of-requires c =
    let range = c.args.range.now in
    let same = same_image c.version.ensures.version c.split.ensures.split (c.in_ok-slots.ensures ∙ ap (map (swept_slot range))
    c.slots.ensures.slots) (c.in_ok-pages.ensures ∙ ap (map (swept_page range)) c.pages.ensures.pages)
    c.frames.ensures.frames in
    subst IsImage (sym same) (swept_is_image range c.args.img.now c.slots.ensures.image)
