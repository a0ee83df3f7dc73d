use Rattle.std.proofs.Common.{ℕ, List, [], ◌∷◌, slice_get, Option, None, Some, refl, ap, subst}
use Rattle.mm_model.specs.{Image.Image, Audit.IsAudit}
use Rattle.mm_cli.specs.declared.{table.{Command.TheVariants.Grants, Kind.{Kind, TheVariants.{Image as image_file}}}}
use Rattle.mm_cli.specs.{Words.{Word, file_word, groups_word, optional}, Arguments.{name_of, optional_groups_of}}
use Rattle.mm_load.specs.Kinds.{an_image}
use Rattle.mm_top.{specs.Commands.YieldsAloneAt, proofs.{Rows.{row_stops, row_ends, groups_files}, NamedFiles.named}}
use Rattle.mm_top.proofs.grants.grants.Goals as goal

audited : (name : Word) (i : Image) (text : List ℕ) (groups : Option (List ℕ)) → IsAudit i groups text
    → YieldsAloneAt Grants (name ∷ optional groups_word groups) (an_image i ∷ []) text
audited name i text None is = is
audited name i text (Some groups) is = is

pub returns-in_err-image : goal.returns-in_err-image
returns-in_err-image g c = row_stops _ c.from_residual.result (named c.name_at.ensures (c.in_err-image.ensures.read [] refl)) refl refl c.from_residual.ensures.1

pub returns : goal.returns
returns g c =
    let i = c.in_ok-image.image in
    let name = name_of (slice_get c.args.words.now 0) in
    let groups = optional_groups_of (slice_get c.args.words.now 1) in
    let first = λ (files : List (List ℕ × Kind)). (name, image_file) ∷ files in
    row_ends _ _ (named c.name_at.ensures (c.in_ok-image.ensures.read [] refl)) (ap first (groups_files _)) c.write_grants.ensures (λ r no. no)
    (λ text is. audited (file_word image_file name) i text groups (subst (λ (gs : Option (List ℕ)). IsAudit i gs text) c.optional_groups_at.ensures is))
