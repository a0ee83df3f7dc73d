use Rattle.std.proofs.Common.{◌≡◌, ℕ, [], refl, sym, subst}
use Rattle.mm_cli.specs.Ranges.{IsRange}
use Rattle.mm_top.proofs.{Rows.{row_stops, row_ends}, NamedFiles.named}
use Rattle.mm_sweep.specs.Holders.{holders}
use Rattle.mm_top.proofs.holders.holders.Goals as goal

pub returns-in_err-image : goal.returns-in_err-image
returns-in_err-image g c = row_stops [] c.from_residual.result (named c.name_at.ensures (c.in_err-image.ensures.read [] refl)) refl refl c.from_residual.ensures.1

pub returns : goal.returns
returns g c =
    row_ends _ _ (named c.name_at.ensures (c.in_ok-image.ensures.read [] refl)) refl c.write_holders.ensures (λ r no. no)
    (λ text is. subst (λ (range : ℕ × ℕ). text ≡ holders (range.0, range.1) c.in_ok-image.image) c.range_at-base.ensures is)

pub write_holders-requires : goal.write_holders-requires
write_holders-requires g c = subst (λ (range : ℕ × ℕ). IsRange range.0 range.1) (sym c.range_at-base.ensures) c.requires.1.0
