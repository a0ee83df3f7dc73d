use Rattle.std.proofs.Common.{◌∙◌, refl, sym, subst}
use Rattle.mm_model.specs.Spelling.{IsImage}
use Rattle.mm_audit.proofs.OwnPages.{same_image}
use Rattle.mm_top.proofs.Migrated.{migrated_is}
use Rattle.mm_top.proofs.migrate.as_version_2.Goals as goal

pub of-requires : goal.of-requires
of-requires c =
    let same = same_image refl refl (c.in_ok-slots.ensures ∙ c.slots.ensures.slots) (c.in_ok-pages.ensures ∙ c.pages.ensures.pages) c.frames.ensures.frames in
    subst IsImage (sym same) (migrated_is c.args.image.now c.args.split c.slots.ensures.image)

pub returns : goal.returns
returns c =
    c.of.ensures
    ∙ same_image refl refl (c.in_ok-slots.ensures ∙ c.slots.ensures.slots) (c.in_ok-pages.ensures ∙ c.pages.ensures.pages) c.frames.ensures.frames
