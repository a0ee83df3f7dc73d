use Rattle.std.proofs.Common.{sym, ◌∙◌}
use Rattle.mm_why.proofs.Carrying.{pair_skip}
use Rattle.mm_why.proofs.carriers.pair_at.Goals as goal

pub returns-in-None-item : goal.returns-in-None-item
returns-in-None-item c =
    pair_skip c.args.stores.now c.args.loads.now c.args.k c.args.best (λ s l x y. let bad = sym c.in-None-item.is ∙ c.item-in-Some.ensures ∙ y in cc)

pub returns-in-None : goal.returns-in-None
returns-in-None c =
    pair_skip c.args.stores.now c.args.loads.now c.args.k c.args.best (λ s l x y. let bad = sym c.in-None.is ∙ c.item.ensures ∙ x in cc)
