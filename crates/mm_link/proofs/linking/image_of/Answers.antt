use Rattle.std.proofs.Common.{sym, subst, ◌∙◌}
use Rattle.mm_model.specs.Spelling.{IsImage}
use Rattle.mm_link.proofs.LinkResults.{image_is}
use Rattle.mm_link.proofs.linking.image_of.Goals as goal

pub of-requires : goal.of-requires
of-requires c =
    let r = c.requires in
    subst IsImage (sym (image_is c.args.objects.now c.args.sites.now c.args.placed.now c.args.pages c.in_ok-slots.slots.items c.in_ok-pages.pages.items
    c.args.frames r.sites r.placed r.pages r.frames c.in_ok-slots.ensures.slots c.in_ok-pages.ensures.pages)) r.image

pub returns-clause-image : goal.returns-clause-image
returns-clause-image c =
    let r = c.requires in
    c.of.ensures ∙ image_is c.args.objects.now c.args.sites.now c.args.placed.now c.args.pages c.in_ok-slots.slots.items c.in_ok-pages.pages.items c.args.frames r.sites
    r.placed r.pages r.frames c.in_ok-slots.ensures.slots c.in_ok-pages.ensures.pages
