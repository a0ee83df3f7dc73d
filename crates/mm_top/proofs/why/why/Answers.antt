use Rattle.std.proofs.Common.{◌≡◌, ℕ, List, [], slice_get, refl, sym, subst, arith}
use Rattle.mm_model.specs.declared.word_use.WordUse.{WordUse}
use Rattle.mm_why.specs.Text.{SaysWhy}
use Rattle.mm_cli.specs.{Ranges.IsWordAddress, Arguments.{number_of, use_of}}
use Rattle.mm_top.proofs.{Rows.{row_stops, row_ends}, NamedFiles.named}
use Rattle.mm_top.proofs.why.why.Goals as goal

pub returns-in_err-image : goal.returns-in_err-image
returns-in_err-image g c = row_stops [] c.from_residual.result (named c.name_at.ensures (c.in_err-image.ensures.read [] refl)) refl refl c.from_residual.ensures.1

pub returns : goal.returns
returns g c =
    let i = c.in_ok-image.image in
    let IsText : List ℕ → ℕ → ℕ → WordUse → Type 0 = λ text group word how. SaysWhy i how group word text in
    let asked : WordUse = use_of (slice_get c.args.words.now 3) in
    let how : c.use_at.result ≡ asked = c.use_at.ensures in
    row_ends _ _ (named c.name_at.ensures (c.in_ok-image.ensures.read [] refl)) refl c.write_reason.ensures (λ r no. no)
    (λ text is.
    subst (λ (group : ℕ). IsText text group (number_of (slice_get c.args.words.now 2)) asked) c.number_at-group.ensures
    (subst (λ (word : ℕ). IsText text c.number_at-group.result word asked) c.number_at-word.ensures
    (subst (λ (u : WordUse). IsText text c.number_at-group.result c.number_at-word.result u) how is)))

pub write_reason-requires-clause-few : goal.write_reason-requires-clause-few
write_reason-requires-clause-few g c = omega (arith, c.number_at-group.ensures, c.requires.1.0.1)

pub write_reason-requires-clause-address : goal.write_reason-requires-clause-address
write_reason-requires-clause-address g c = subst IsWordAddress (sym c.number_at-word.ensures) c.requires.1.1.0
