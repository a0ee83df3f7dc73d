use Rattle.std.proofs.{Common.{sym, subst}, lemmas.Result.IfOk-weaker}
use Rattle.mm_why.specs.{Works.IsSearched, Giving.{MeetsAt, AreCarriers}}
use Rattle.mm_why.proofs.Giving.{pair_carries, no_pair_meets, pair_all}
use Rattle.mm_why.proofs.work.Workspace.own_carriers.Goals as goal

pub returns : goal.returns
returns c =
    let k = c.requires.giver in
    let l = c.requires.taker in
    let from = subst (λ v. IsSearched c.args.context.now.graph.now c.args.self.now.lines.items c.args.giver v)
    (sym (c.lines_of-from.ensures k.0 k.1)) (c.requires.work.known c.args.giver k.0 k.1) in
    let to = subst (λ v. IsSearched c.args.context.now.graph.now c.args.self.now.lines.items c.args.taker v)
    (sym (c.lines_of-to.ensures l.0 l.1)) (c.requires.work.known c.args.taker l.0 l.1) in
    IfOk-weaker c.meeting_places.result _ _ (λ pair h. pair_all (MeetsAt c.args.context.now.graph.now c.args.giver c.args.taker → ⊥) c.args.context.now.graph.now c.lines_of-from.result.now c.lines_of-to.result.now
    (AreCarriers c.args.self.now.lines.items c.args.giver c.args.taker)
    (no_pair_meets c.args.context.now.image.now c.args.context.now.graph.now c.requires.graph c.args.self.now.lines.items c.args.giver c.args.taker _ _ from to)
    (pair_carries c.args.context.now.image.now c.args.context.now.graph.now c.requires.graph c.args.self.now.lines.items c.args.giver c.args.taker _ _ from to)
    pair h) c.meeting_places.ensures
