use Rattle.std.proofs.Common.{ℕ, List, [], refl, subst}
use Rattle.mm_model.specs.Groups.{among}
use Rattle.mm_audit.specs.Refusals.{StandAlone}
use Rattle.mm_top.specs.{Groups.GroupsRefused, Commands.IsExtract}
use Rattle.mm_top.proofs.{Rows.{row_stops, row_ends}, NamedFiles.named}
use Rattle.mm_top.proofs.extract.extract.Goals as goal

pub returns-in_err-image : goal.returns-in_err-image
returns-in_err-image g c = row_stops [] c.from_residual.result (named c.name_at.ensures (c.in_err-image.ensures.read [] refl)) refl refl c.from_residual.ensures.1

pub returns : goal.returns
returns g c =
    let i = c.in_ok-image.image in
    let IsText : List ℕ → List ℕ → Type 0 = λ text groups. StandAlone i (among groups) × IsExtract i (among groups) text in
    row_ends _ _ (named c.name_at.ensures (c.in_ok-image.ensures.read [] refl)) refl c.write_extract.ensures
    (λ r no. subst (λ (groups : List ℕ). GroupsRefused i (among groups) r) c.groups_at.ensures no)
    (λ text is. subst (IsText text) c.groups_at.ensures is)
