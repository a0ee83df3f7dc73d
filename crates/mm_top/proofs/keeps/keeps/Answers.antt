use Rattle.std.proofs.Common.{ℕ, List, [], slice_get, refl, subst}
use Rattle.mm_kernel.specs.Segments.{Segment}
use Rattle.mm_confine_text.specs.Told.{Tells}
use Rattle.mm_cli.specs.Arguments.{segments_of}
use Rattle.mm_top.proofs.{Rows.{row_stops, row_ends}, NamedFiles.named}
use Rattle.mm_top.proofs.keeps.keeps.Goals as goal

pub returns-in_err-image : goal.returns-in_err-image
returns-in_err-image g c = row_stops [] c.from_residual.result (named c.name_at.ensures (c.in_err-image.ensures.read [] refl)) refl refl c.from_residual.ensures.1

pub returns : goal.returns
returns g c =
    let i = c.in_ok-image.image in
    row_ends _ _ (named c.name_at.ensures (c.in_ok-image.ensures.read [] refl)) refl c.write_kept.ensures (λ r no. no)
    (λ text is.
    subst (λ (threads : ℕ). Tells i (segments_of (slice_get c.args.words.now 2)) threads text) c.number_at-threads.ensures
    (subst (λ (kept : List Segment). Tells i kept c.number_at-threads.result text) c.segments_at.ensures is))
