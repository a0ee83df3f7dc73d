use Rattle.std.proofs.lemmas.Result.{IfOk-weaker}
use Rattle.mm_why.proofs.Working.{goes_trans}
use Rattle.mm_why.proofs.work.Workspace.carriers_between.Goals as goal

pub known_carriers-requires-clause-known_giver : goal.known_carriers-requires-clause-known_giver
known_carriers-requires-clause-known_giver c = c.in_ok-ensure_searched-2.ensures.goes_on.known c.args.giver c.in_ok-ensure_searched.ensures.known

pub returns-clause-goes_on : goal.returns-clause-goes_on
returns-clause-goes_on c = IfOk-weaker c.known_carriers.result _ _ (λ found goes.
    goes_trans c.args.context.now.image.now c.args.context.now.graph.now c.args.self.now c.ensure_searched-2.new.self c.known_carriers.new.self
    (goes_trans c.args.context.now.image.now c.args.context.now.graph.now c.args.self.now c.ensure_searched.new.self c.ensure_searched-2.new.self c.in_ok-ensure_searched.ensures.goes_on c.in_ok-ensure_searched-2.ensures.goes_on)
    goes) c.known_carriers.ensures.goes_on
