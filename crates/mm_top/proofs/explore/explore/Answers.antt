use Rattle.std.proofs.Common.{ℕ, [], refl, subst, arith}
use Rattle.mm_explore.specs.Finds.{Explores}
use Rattle.mm_top.proofs.{Rows.{row_stops, row_ends}, NamedFiles.named}
use Rattle.mm_top.proofs.explore.explore.Goals as goal

pub returns-in_err-image : goal.returns-in_err-image
returns-in_err-image g c = row_stops [] c.from_residual.result (named c.name_at.ensures (c.in_err-image.ensures.read [] refl)) refl refl c.from_residual.ensures.1

pub returns : goal.returns
returns g c =
    row_ends _ _ (named c.name_at.ensures (c.in_ok-image.ensures.read [] refl)) refl c.write_exploration.ensures (λ r no. no)
    (λ text is. subst (λ (states : ℕ). Explores c.in_ok-image.image states text) c.number_at.ensures is)

pub write_exploration-requires : goal.write_exploration-requires
write_exploration-requires g c = record {
  some = omega (arith, c.number_at.ensures, c.requires.1.0.0);
  few = omega (arith, c.number_at.ensures, c.requires.1.0.1);
}
