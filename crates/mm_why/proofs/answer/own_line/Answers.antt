use Rattle.std.proofs.Common.{◌<◌, List, length, sym, subst}
use Rattle.mm_why.{specs.{declared.line.Line.Line, Works.IsSearched}, proofs.Deciding.{usable_gives, only_maker}}
use Rattle.mm_why.proofs.answer.own_line.Goals as goal

pub earliest-requires : goal.earliest-requires
earliest-requires c k t at =
    let n = c.requires.known in
    let s = subst (λ v. IsSearched c.args.context.now.graph.now c.args.work.now.lines.items c.args.owner v) (sym (c.lines_of.ensures n.0 n.1)) (c.requires.work.known c.args.owner n.0 n.1) in
    subst (λ (lines : List Line). t < length lines) (sym c.deref.ensures.value) (s.placed k t at).0

pub make_whole-requires-clause-some : goal.make_whole-requires-clause-some
make_whole-requires-clause-some c =
    let n = c.requires.known in
    only_maker c.args.context.now.image.now c.args.context.now.graph.now c.requires.graph c.args.work.now.lines.items c.args.owner c.lines_of.result.now
    (subst (λ v. IsSearched c.args.context.now.graph.now c.args.work.now.lines.items c.args.owner v) (sym (c.lines_of.ensures n.0 n.1)) (c.requires.work.known c.args.owner n.0 n.1))
    c.args.how c.args.word c.requires.word (rw c.deref.ensures.value at c.in-None.ensures) c.requires.owns

pub returns-in-Some-clause-line : goal.returns-in-Some-clause-line
returns-in-Some-clause-line c =
    let n = c.requires.known in
    usable_gives c.args.context.now.image.now c.args.context.now.graph.now c.requires.graph c.args.work.now.lines.items c.args.owner c.lines_of.result.now
    (subst (λ v. IsSearched c.args.context.now.graph.now c.args.work.now.lines.items c.args.owner v) (sym (c.lines_of.ensures n.0 n.1)) (c.requires.work.known c.args.owner n.0 n.1))
    c.args.how c.args.word c.requires.word c.in-Some.place (rw c.deref.ensures.value at c.in-Some.ensures)
