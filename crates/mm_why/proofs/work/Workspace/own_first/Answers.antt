use Rattle.std.proofs.Common.{sym, subst}
use Rattle.mm_why.{specs.Works.IsSearched, proofs.Giving.{with_right, no_right}}
use Rattle.mm_why.proofs.work.Workspace.own_first.Goals as goal

pub unreachable-requires : goal.unreachable-requires
unreachable-requires c =
    let k = c.requires.known in
    no_right c.args.context.now.image.now c.args.context.now.graph.now c.requires.graph c.args.self.now.lines.items c.args.group c.lines_of.result.now c.args.right
    (subst (λ v. IsSearched c.args.context.now.graph.now c.args.self.now.lines.items c.args.group v) (sym (c.lines_of.ensures k.0 k.1)) (c.requires.work.known c.args.group k.0 k.1))
    c.in-None.ensures c.requires.some

pub returns : goal.returns
returns c =
    let k = c.requires.known in
    with_right c.args.context.now.image.now c.args.context.now.graph.now c.requires.graph c.args.self.now.lines.items c.args.group c.lines_of.result.now c.args.right c.in-Some.place
    (subst (λ v. IsSearched c.args.context.now.graph.now c.args.self.now.lines.items c.args.group v) (sym (c.lines_of.ensures k.0 k.1)) (c.requires.work.known c.args.group k.0 k.1))
    c.in-Some.ensures
