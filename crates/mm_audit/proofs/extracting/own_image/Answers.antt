use Rattle.std.proofs.Common.{◌∙◌, refl, sym, ap, subst}
use Rattle.mm_model.specs.{Groups.{among, own_slots}, Spelling.IsImage, Worlds.Extracts, Reach.Entries.All}
use Rattle.mm_model.proofs.OwnSlots.{own_image}
use Rattle.mm_audit.specs.Own.{is_covered, kept_pages}
use Rattle.mm_audit.proofs.OwnPages.{kept_paged, kept_holds, extracts, same_image}
use Rattle.mm_audit.proofs.Touches.{touch_small, test_touches}
use Rattle.mm_audit.proofs.extracting.own_image.Goals as goal

pub of-requires : goal.of-requires
of-requires c =
    let i = c.args.img.now in
    let test = among c.args.groups.now in
    let covered = is_covered c.in_ok-touched.touched in
    let image = c.slots.ensures.image in
    let same = same_image c.version.ensures.version c.split.ensures.split
    (c.in_ok-slots.ensures ∙ ap (own_slots test) c.slots.ensures.slots) (c.in_ok-pages.ensures
    ∙ ap (kept_pages covered) c.pages.ensures.pages) c.frames.ensures.frames in
    subst IsImage (sym same) (own_image i test image c.requires.some c.requires.closed
    (record { pages = kept_pages covered i.memory.pages; frames = i.memory.frames }) refl
    (kept_paged covered i.memory image.paged) (kept_holds covered i.memory.pages image.words))

pub returns : goal.returns
returns c =
    let i = c.args.img.now in
    let test = among c.args.groups.now in
    let covered = is_covered c.in_ok-touched.touched in
    let image = c.slots.ensures.image in
    let same = same_image c.version.ensures.version c.split.ensures.split
    (c.in_ok-slots.ensures ∙ ap (own_slots test) c.slots.ensures.slots) (c.in_ok-pages.ensures
    ∙ ap (kept_pages covered) c.pages.ensures.pages) c.frames.ensures.frames in
    subst (Extracts i test) (sym (c.of.ensures ∙ same))
    (extracts i image test covered (λ w t. touch_small i All image t.group w t.touches) (test_touches i image test c.mask_of.result c.mask_of.ensures c.in_ok-touched.touched c.in_ok-touched.ensures))
