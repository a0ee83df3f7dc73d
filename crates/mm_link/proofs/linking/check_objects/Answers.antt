use Rattle.std.proofs.{Common.{List, ap, sym, ◌∙◌, subst}, lemmas.Result.err_from_is_err_and}
use Rattle.mm_link.specs.{Placing.Site, Answers.Fails, Faults.{unknown_names, outsides}, Steps.Passes}
use Rattle.mm_link.proofs.LinkResults.{fails_known, fails_slots, after_four}
use Rattle.mm_link.proofs.linking.check_objects.Goals as goal

pub returns-in_err-check_known : goal.returns-in_err-check_known
returns-in_err-check_known c =
    let objects = c.args.objects.now in
    let e = c.in_err-check_known.field-0.0 in
    let p = err_from_is_err_and c.from_residual.result c.from_residual.ensures.1 in
    rw (p.1, p.2) (fails_known objects e (subst (λ (ss : List Site). Fails (unknown_names ss objects) e) c.requires.sites c.in_err-check_known.ensures))

pub returns-in_err-check_slots : goal.returns-in_err-check_slots
returns-in_err-check_slots c =
    let objects = c.args.objects.now in
    let known = ap (λ (ss : List Site). unknown_names ss objects) (sym c.requires.sites) ∙ c.in_ok-check_known.ensures in
    let inside = ap (λ (ss : List Site). outsides ss objects) (sym c.requires.sites) ∙ c.in_ok-check_offsets.ensures in
    let p = err_from_is_err_and c.from_residual-in_err-check_slots.result c.from_residual-in_err-check_slots.ensures.1 in
    rw (p.1, p.2) (fails_slots objects c.in_err-check_slots.field-0.0 known inside c.in_err-check_slots.ensures)

pub returns : goal.returns
returns c =
    let objects = c.args.objects.now in
    let known = ap (λ (ss : List Site). unknown_names ss objects) (sym c.requires.sites) ∙ c.in_ok-check_known.ensures in
    let inside = ap (λ (ss : List Site). outsides ss objects) (sym c.requires.sites) ∙ c.in_ok-check_offsets.ensures in
    subst (λ f. Passes f c.check_handlers.result) (sym (after_four objects known inside c.in_ok-check_slots.ensures c.in_ok-check_some.ensures)) c.check_handlers.ensures
