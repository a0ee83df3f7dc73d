use Rattle.std.proofs.Common.{ℕ, List, [], refl, sym, subst}
use Rattle.mm_format.specs.Images.{Spells}
use Rattle.mm_model.specs.Image.{Image}
use Rattle.mm_sweep.specs.{Swept.swept, Refusals.CanSweep}
use Rattle.mm_cli.specs.Ranges.{IsRange}
use Rattle.mm_top.{specs.Ranges.SweepRefused, proofs.{Rows.{row_stops, row_ends}, NamedFiles.named}}
use Rattle.mm_top.proofs.sweep.sweep.Goals as goal

abbrev IsSwept : Image → List ℕ → ℕ × ℕ → Type 0
IsSwept i text range = CanSweep (range.0, range.1) i × Spells text (swept (range.0, range.1) i)

pub returns-in_err-image : goal.returns-in_err-image
returns-in_err-image g c = row_stops [] c.from_residual.result (named c.name_at.ensures (c.in_err-image.ensures.read [] refl)) refl refl c.from_residual.ensures.1

pub returns : goal.returns
returns g c = row_ends _ _ (named c.name_at.ensures (c.in_ok-image.ensures.read [] refl)) refl c.write_swept.ensures
    (λ r no. subst (λ (range : ℕ × ℕ). SweepRefused (range.0, range.1) c.in_ok-image.image r) c.range_at-base.ensures no)
    (λ text is. subst (IsSwept c.in_ok-image.image text) c.range_at-base.ensures is)

pub write_swept-requires : goal.write_swept-requires
write_swept-requires g c = subst (λ (range : ℕ × ℕ). IsRange range.0 range.1) (sym c.range_at-base.ensures) c.requires.1.0
