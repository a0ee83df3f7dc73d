use Rattle.std.proofs.{Common.{List, ℕ, ap, sym, ◌∙◌, subst}, lemmas.Result.err_from_is_err_and}
use Rattle.mm_object.specs.Objects.{Object}
use Rattle.mm_link.specs.{Answers.Fails, Faults.{unknown_among, unknown_names}}
use Rattle.mm_link.proofs.{Firsts.{onward, failing}, Known.unknown-cons}
use Rattle.mm_link.proofs.names.check_known.Goals as goal

pub loop-object-preserved : goal.loop-object-preserved
loop-object-preserved c =
    let l = c.loop-object in
    let sites = c.args.sites.now in
    onward (unknown_names sites) (λ (o : Object). unknown_among sites o.externals) (unknown-cons sites) c.args.objects.now l.object-index l.invariant c.object-item.result
    c.loop-object-test.true c.object-item.is
    (ap (unknown_among sites) (sym c.externals.ensures.externals) ∙ c.in_ok-check_known_names.ensures)

pub returns-in_err-check_known_names : goal.returns-in_err-check_known_names
returns-in_err-check_known_names c =
    let l = c.loop-object in
    let sites = c.args.sites.now in
    let e = c.in_err-check_known_names.field-0.0 in
    let p = err_from_is_err_and c.from_residual.result c.from_residual.ensures.1 in
    rw (p.1, p.2) (failing (unknown_names sites) (λ (o : Object). unknown_among sites o.externals) (unknown-cons sites) c.args.objects.now l.object-index l.invariant
    c.object-item.result e c.loop-object-test.true c.object-item.is
    (subst (λ (names : List (List ℕ)). Fails (unknown_among sites names) e) c.externals.ensures.externals c.in_err-check_known_names.ensures))
