use Rattle.std.proofs.Common.{Bool, [], refl, subst}
use Rattle.mm_format.specs.Images.{Spells}
use Rattle.mm_model.specs.Worlds.{migrated}
use Rattle.mm_top.proofs.{Rows.{row_stops, row_ends}, NamedFiles.named}
use Rattle.mm_top.proofs.migrate.migrate.Goals as goal

pub returns-in_err-image : goal.returns-in_err-image
returns-in_err-image g c = row_stops [] c.from_residual.result (named c.name_at.ensures (c.in_err-image.ensures.read [] refl)) refl refl c.from_residual.ensures.1

pub returns : goal.returns
returns g c = row_ends _ _ (named c.name_at.ensures (c.in_ok-image.ensures.read [] refl)) refl c.write_migrated.ensures (λ r no. no)
    (λ text is. subst (λ (split : Bool). Spells text (migrated c.in_ok-image.image split)) c.mode_at.ensures is)
