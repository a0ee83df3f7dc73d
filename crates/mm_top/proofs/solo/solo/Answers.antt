use Rattle.std.proofs.Common.{◌≡◌, ℕ, List, [], ◌∷◌, slice_get, refl, subst}
use Rattle.mm_word.specs.Adding.{adds_both}
use Rattle.mm_model.specs.Groups.{among}
use Rattle.mm_audit.specs.Refusals.{StandAlone}
use Rattle.mm_cli.specs.Arguments.{groups_of}
use Rattle.mm_load.{specs.Kinds.an_image, proofs.Reading.files_then}
use Rattle.mm_top.specs.{Groups.GroupsRefused, Commands.own_report}
use Rattle.mm_top.proofs.{Rows.{row_stops, row_ends}, NamedFiles.named}
use Rattle.mm_top.proofs.solo.solo.Goals as goal

pub returns-in_err-image : goal.returns-in_err-image
returns-in_err-image g c = row_stops _ c.from_residual.result (named c.name_at.ensures (c.in_err-image.ensures.read [] refl)) refl refl c.from_residual.ensures.1

pub returns-in_err-list : goal.returns-in_err-list
returns-in_err-list g c =
    row_stops [] c.from_residual-in_err-list.result
    (files_then (named c.name_at.ensures (c.in_ok-image.ensures.read [] refl)) (named c.name_at-2.ensures (c.in_err-list.ensures.read (an_image c.in_ok-image.image ∷ []) refl))
    (record { kept = c.load_file.ensures.kept; counts = refl; later = c.load_file.ensures.later; asked = λ names more one two. adds_both one two }))
    refl refl c.from_residual-in_err-list.ensures.1

pub returns : goal.returns
returns g c =
    let i = c.in_ok-image.image in
    let list = c.in_ok-list.list in
    let IsText : List ℕ → List ℕ → ℕ → Type 0 = λ text groups cycles.
    StandAlone i (among groups) × (text ≡ own_report g.M.Inspect.tells i list cycles (among groups)) in
    row_ends _ _
    (files_then (named c.name_at.ensures (c.in_ok-image.ensures.read [] refl)) (named c.name_at-2.ensures (c.in_ok-list.ensures.read (an_image i ∷ []) refl))
    (record { kept = c.load_file.ensures.kept; counts = refl; later = c.load_file.ensures.later; asked = λ names more one two. adds_both one two }))
    refl c.write_solo.ensures (λ r no. subst (λ (groups : List ℕ). GroupsRefused i (among groups) r) c.groups_at.ensures no)
    (λ text is.
    subst (λ (cycles : ℕ). IsText text (groups_of (slice_get c.args.words.now 1)) cycles) c.number_at.ensures
    (subst (λ (groups : List ℕ). IsText text groups c.number_at.result) c.groups_at.ensures is))
