use Rattle.std.proofs.Common.{ℕ, ◌*◌, ap, sym, subst, ◌∙◌}
use Rattle.mm_model.specs.Spelling.{IsImage}
use Rattle.mm_gen.proofs.Images.{generated_is_image, parts_of_image}
use Rattle.mm_gen.proofs.generating.image.Goals as goal

pub of-requires : goal.of-requires
of-requires c =
    let parts =
    parts_of_image c.args.number c.args.size c.in_ok-slots.slots.items c.in_ok-pages.pages.items (2 * c.from.result) c.in_ok-slots.ensures c.in_ok-pages.ensures
    (ap (λ (n : ℕ). 2 * n) c.from.ensures)
    in
    subst IsImage (sym parts) (generated_is_image c.args.number c.args.size c.ranges.number.fits c.requires.some c.requires.few)

pub returns : goal.returns
returns c =
    c.of.ensures
    ∙ parts_of_image c.args.number c.args.size c.in_ok-slots.slots.items c.in_ok-pages.pages.items (2 * c.from.result) c.in_ok-slots.ensures c.in_ok-pages.ensures
    (ap (λ (n : ℕ). 2 * n) c.from.ensures)
