use Rattle.std.proofs.Common.{◌<◌, length, subst, arith}
use Rattle.mm_why.{specs.{Derivations.Names, Pruning.AddsNamed}, proofs.Pruning.{step_needs, same_line}}
use Rattle.mm_why.proofs.prune.need_at.Goals as goal

pub need-requires : goal.need-requires
need-requires c = λ j h.
    let e = same_line c.args.lines.now c.args.at c.index-lines-at.result (let f = c.requires.fits in let s = c.requires.small in omega arith) c.index-lines-at.is in
    let lt = c.requires.earlier c.args.at j (let f = c.requires.fits in let s = c.requires.small in omega arith) (subst (λ v. Names v.rule j) e h) in
    let s = c.requires.small in omega (arith, lt, s)

pub returns-then-needed-at : goal.returns-then-needed-at
returns-then-needed-at c = λ last n.
    let s : c.args.at < length c.args.lines.now = (let f = c.requires.fits in let s = c.requires.small in omega arith) in
    let e = same_line c.args.lines.now c.args.at c.index-lines-at.result s c.index-lines-at.is in
    step_needs c.args.lines.now c.requires.earlier last c.args.at s c.args.needed.now c.need.new.needed n c.if-needed-at.true
    (subst (λ v. AddsNamed v.rule c.args.needed.now c.need.new.needed) e c.need.ensures)
