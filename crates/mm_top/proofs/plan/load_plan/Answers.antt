use Rattle.std.proofs.Common.{[], ◌∷◌, refl, sym, append-nil, arith}
use Rattle.mm_word.specs.Adding.{adds_both}
use Rattle.mm_load.{specs.Kinds.an_image, proofs.Reading.files_then}
use Rattle.mm_top.proofs.{Reported.issued_for, Rows.{reading_stops, reading_ends}, NamedFiles.{named, schedule_named}}
use Rattle.mm_top.proofs.plan.load_plan.Goals as goal

pub returns-in_err-image-clause-read : goal.returns-in_err-image-clause-read
returns-in_err-image-clause-read g c =
    reading_stops _ c.from_residual.result (named c.name_at.ensures (c.in_err-image.ensures.read [] refl)) refl c.from_residual.ensures.1

pub returns-in_err-order-clause-read : goal.returns-in_err-order-clause-read
returns-in_err-order-clause-read g c =
    reading_stops _ c.from_residual-in_err-order.result
    (files_then (named c.name_at.ensures (c.in_ok-image.ensures.read [] refl)) (schedule_named c.optional_name_at.ensures (c.in_err-order.ensures (an_image c.in_ok-image.image ∷ []) refl))
    (record { kept = c.load_file.ensures.kept; counts = refl; later = c.load_file.ensures.later; asked = λ names more one two. adds_both one two }))
    (sym (append-nil _)) c.from_residual-in_err-order.ensures.1

pub returns-clause-read : goal.returns-clause-read
returns-clause-read g c =
    reading_ends _ _
    (files_then (named c.name_at.ensures (c.in_ok-image.ensures.read [] refl)) (schedule_named c.optional_name_at.ensures (c.in_ok-order.ensures (an_image c.in_ok-image.image ∷ []) refl))
    (record { kept = c.load_file.ensures.kept; counts = refl; later = c.load_file.ensures.later; asked = λ names more one two. adds_both one two }))
    refl refl

pub returns-clause-few : goal.returns-clause-few
returns-clause-few g c = omega (arith, c.number_at-cycles.ensures, c.requires.1.0.1)

pub returns-clause-issues : goal.returns-clause-issues
returns-clause-issues g c = issued_for c.in_ok-order.order c.in_ok-image.image c.number_at-cycles.ensures
