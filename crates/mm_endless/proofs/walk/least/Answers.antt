use Rattle.std.proofs.Common.{◌+◌, take, slice_index_or, Some, sym, subst}
use Rattle.std.proofs.lemmas.List.{take_more}
use Rattle.mm_endless.{specs.Stages.{IsLeastOf, lesser_of}, proofs.Lists.least_more}
use Rattle.mm_endless.proofs.walk.least.Goals as goal

pub loop-number-preserved : goal.loop-number-preserved
loop-number-preserved c =
    let ns = c.args.numbers.now in
    let i = c.loop-number.number-index in
    subst (IsLeastOf (take (i + 1) ns)) (sym c.lesser-least.ensures)
    (subst (λ l. IsLeastOf l (Some (lesser_of c.loop-number.least (slice_index_or ns i 0)))) (sym (take_more ns i 0 c.loop-number-test.true))
    (least_more (take i ns) (slice_index_or ns i 0) c.loop-number.least c.loop-number.invariant))
