use Rattle.std.{proofs.Common.{◌+◌, ◌++◌, ◌∷◌, [], take, sym, subst}, specs.List.AllZip}
use Rattle.mm_keep_text.{specs.Answers.IsParty, proofs.{Sets.take_item, Telling.zip_push}}
use Rattle.mm_keep_text.proofs.finding.parties.Goals as goal

pub loop-origin-preserved : goal.loop-origin-preserved
loop-origin-preserved c =
    let one = IsParty c.args.kernel.now.image c.args.kernel.now.kept in
    let origins = c.args.origins.now in
    let at = c.loop-origin.origin-index in
    let origin = c.origin-item.result in
    let old = c.loop-origin.parties.items in
    let more = take_item origins at origin c.loop-origin-test.true c.origin-item.is in
    subst (AllZip one (take (at + 1) origins)) (sym c.in_ok-push.ensures.items)
    (subst (λ os. AllZip one os (old ++ c.in_ok-party.field-0 ∷ [])) (sym more)
    (zip_push one (take at origins) old origin c.in_ok-party.field-0 c.loop-origin.invariant c.in_ok-party.ensures))
