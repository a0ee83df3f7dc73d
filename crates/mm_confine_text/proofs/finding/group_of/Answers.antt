use Rattle.std.proofs.Common.{List, ap, ◌∙◌}
use Rattle.std.specs.List.{flat_map}
use Rattle.mm_model.specs.Image.{Image}
use Rattle.mm_kernel.specs.Segments.{Segment}
use Rattle.mm_confine_text.specs.Found.{slot_if}
use Rattle.mm_confine_text.proofs.Listing.{slots_are}
use Rattle.mm_confine_text.proofs.finding.group_of.Goals as goal

pub returns-clause-slots : goal.returns-clause-slots
returns-clause-slots c =
    let g = c.args.number in
    c.in_ok-slots.ensures ∙ ap (flat_map (slot_if c.kept.result.now g)) (c.slots.ensures.slots ∙ ap (λ (v : Image). v.slots) c.image.ensures)
    ∙ ap (λ (k : List Segment). flat_map (slot_if k g) c.args.kernel.now.image.slots) c.kept.ensures
    ∙ slots_are c.args.kernel.now.kept g c.args.kernel.now.image.slots
