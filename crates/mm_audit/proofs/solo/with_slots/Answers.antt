use Rattle.std.proofs.Common.{◌∙◌, refl, sym, ap, subst}
use Rattle.mm_model.{specs.{Groups.{among, own_slots}, Spelling.IsImage, Worlds.alone}, proofs.OwnSlots.own_image}
use Rattle.mm_audit.proofs.OwnPages.{same_image}
use Rattle.mm_audit.proofs.solo.with_slots.Goals as goal

pub of-requires : goal.of-requires
of-requires c =
    let i = c.args.img.now in
    let test = among c.args.groups.now in
    let image = c.slots.ensures.image in
    let same = same_image c.version.ensures.version c.split.ensures.split
    (c.in_ok-slots.ensures ∙ ap (own_slots test) c.slots.ensures.slots) (c.in_ok-pages.ensures ∙ c.pages.ensures.pages)
    c.frames.ensures.frames in
    subst IsImage (sym same) (own_image i test image c.requires.some c.requires.closed i.memory refl image.paged image.words)

pub returns : goal.returns
unfolding alone
returns c =
    let i = c.args.img.now in
    let test = among c.args.groups.now in
    let same = same_image c.version.ensures.version c.split.ensures.split
    (c.in_ok-slots.ensures ∙ ap (own_slots test) c.slots.ensures.slots) (c.in_ok-pages.ensures ∙ c.pages.ensures.pages)
    c.frames.ensures.frames in
    c.of.ensures ∙ same
