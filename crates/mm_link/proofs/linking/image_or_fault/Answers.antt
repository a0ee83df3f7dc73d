use Rattle.std.proofs.{Common.{◌*◌, ◌≤◌, List, length, sym, ap, ◌∙◌, subst}, lemmas.Result.err_from_is_err_and}
use Rattle.mm_link.{specs.Placing.{Part, by_length}, proofs.LinkResults.{apart_is, fails_apart}}
use Rattle.mm_link.proofs.linking.image_or_fault.Goals as goal

pub returns-in_err-check_apart : goal.returns-in_err-check_apart
returns-in_err-check_apart c =
    let p = err_from_is_err_and c.from_residual-in_err-check_apart.result c.from_residual-in_err-check_apart.ensures.1 in
    rw (p.1, p.2) (fails_apart c.args.objects.now c.in_ok-parts.parts.items c.deref.result.now c.in_err-check_apart.field-0.0 c.in_ok-parts.ensures.parts c.deref.ensures.value
    c.in_err-check_apart.ensures)

pub image_of_parts-requires-clause-parts : goal.image_of_parts-requires-clause-parts
image_of_parts-requires-clause-parts c = c.deref-3.ensures.value ∙ c.in_ok-parts.ensures.parts

pub image_of_parts-requires-clause-few_parts : goal.image_of_parts-requires-clause-few_parts
image_of_parts-requires-clause-few_parts c =
    subst (λ (ps : List Part). length ps ≤ 256 * length c.args.objects.now) (sym c.deref-3.ensures.value) c.in_ok-parts.ensures.few

pub image_of_parts-requires-clause-placed : goal.image_of_parts-requires-clause-placed
image_of_parts-requires-clause-placed c =
    c.deref-4.ensures.value ∙ c.in_ok-placed.ensures.parts ∙ ap by_length (c.deref-2.ensures.value ∙ c.in_ok-parts.ensures.parts)

pub image_of_parts-requires-clause-apart : goal.image_of_parts-requires-clause-apart
image_of_parts-requires-clause-apart c =
    apart_is c.args.objects.now c.in_ok-parts.parts.items c.deref.result.now c.in_ok-parts.ensures.parts c.deref.ensures.value c.in_ok-check_apart.ensures
