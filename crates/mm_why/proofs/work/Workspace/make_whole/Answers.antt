use Rattle.std.proofs.{Common.{length, sym, subst}, lemmas.Result.IfOk-weaker}
use Rattle.mm_why.{specs.Derivations.{Follows, Says}, proofs.Giving.made_whole}
use Rattle.mm_why.specs.declared.line.Rule.TheVariants as rules
use Rattle.mm_why.proofs.work.Workspace.make_whole.Goals as goal

pub returns-clause-goes_on : goal.returns-clause-goes_on
returns-clause-goes_on c =
    let f = made_whole c.args.context.now.image.now c.args.context.now.graph.now c.requires.graph c.args.self.now.lines.items c.args.group c.own_first-by.result c.own_first-by.ensures in
    IfOk-weaker c.find_or_add.result _ _ (λ k put. (put c.args.context.now.image.now c.args.context.now.graph.now c.requires.work c.requires.known
    (subst (λ v. Follows c.args.context.now.image.now c.args.self.now.lines.items (length c.args.self.now.lines.items) c.args.group v (rules.Made c.own_first-by.result)) (sym c.whole.ensures) f)).0) c.find_or_add.ensures

pub returns-clause-says : goal.returns-clause-says
returns-clause-says c =
    let f = made_whole c.args.context.now.image.now c.args.context.now.graph.now c.requires.graph c.args.self.now.lines.items c.args.group c.own_first-by.result c.own_first-by.ensures in
    IfOk-weaker c.find_or_add.result _ _ (λ k put. subst (Says c.find_or_add.new.self.lines.items (length c.find_or_add.new.self.lines.items) k c.args.group) c.whole.ensures
    (put c.args.context.now.image.now c.args.context.now.graph.now c.requires.work c.requires.known
    (subst (λ v. Follows c.args.context.now.image.now c.args.self.now.lines.items (length c.args.self.now.lines.items) c.args.group v (rules.Made c.own_first-by.result)) (sym c.whole.ensures) f)).1) c.find_or_add.ensures
