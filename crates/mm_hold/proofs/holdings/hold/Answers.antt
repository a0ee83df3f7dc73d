use Rattle.std.proofs.Common.{◌∙◌, sym, subst}
use Rattle.std.specs.Prelude.{Contains}
use Rattle.mm_model.specs.Spelling.{IsImage}
use Rattle.mm_hold.proofs.CellLists.{first_is}
use Rattle.mm_hold.proofs.holdings.hold.Goals as goal

pub conduct_of-requires-clause-first : goal.conduct_of-requires-clause-first
conduct_of-requires-clause-first c w form =
    let i = c.args.kernel.now.image in
    let kept = c.args.kernel.now.kept in
    let image : IsImage i = subst IsImage c.image.ensures c.slots-slots.ensures.image in
    let is = c.deref.ensures.value ∙ c.in_ok-first.ensures in
    let both = first_is i kept image.paged w form in
    (λ h. both.0 (subst (λ l. Contains l (w, form)) is h), λ h. subst (λ l. Contains l (w, form)) (sym is) (both.1 h))
