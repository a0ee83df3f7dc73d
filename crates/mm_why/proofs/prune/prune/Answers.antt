use Rattle.std.proofs.{Common.{subst}, lemmas.Result.IfOk-weaker}
use Rattle.mm_why.{specs.Pruning.HaveKept, proofs.Pruning.{derivation, last_line}}
use Rattle.mm_why.proofs.prune.prune.Goals as goal

pub returns-clause-derivation : goal.returns-clause-derivation
returns-clause-derivation c = IfOk-weaker c.kept.result _ _ (λ out h i each none.
    let kept = subst (λ v. HaveKept c.args.lines.now v out.items) c.deref.ensures.value h in
    derivation c.args.lines.now c.args.last c.requires.small c.in_ok-needed.needed.items c.in_ok-needed.ensures kept.places out.items kept.kept i each none) c.kept.ensures

pub returns-clause-last : goal.returns-clause-last
returns-clause-last c = IfOk-weaker c.kept.result _ _ (λ out h.
    let kept = subst (λ v. HaveKept c.args.lines.now v out.items) c.deref.ensures.value h in
    last_line c.args.lines.now c.args.last c.requires.small c.in_ok-needed.needed.items c.in_ok-needed.ensures kept.places out.items kept.kept) c.kept.ensures
