use Rattle.std.proofs.{Common.{◌<◌, length, sym, ◌∙◌, subst, arith, rules}, lemmas.List.length-set}
use Rattle.mm_why.{specs.Derivations.Names, proofs.Pruning.{keeps_as, skips, same_line}}
use Rattle.mm_why.proofs.prune.keep.Goals as goal

pub returns-then-not-needed-k : goal.returns-then-not-needed-k
returns-then-not-needed-k c =
    skips c.args.lines.now c.requires.earlier c.args.needed.now c.args.k c.requires.small c.requires.fits c.args.places.now c.args.out.now.items c.requires.kept
    (λ h. let bad = sym c.if-not-needed-k.true ∙ h in cc)

pub moved-rule-requires : goal.moved-rule-requires
moved-rule-requires c = λ j h.
    let s : c.args.k < length c.args.lines.now = (let f = c.requires.fits in let s = c.requires.small in omega arith) in
    let e = same_line c.args.lines.now c.args.k c.index-lines-k.result s c.index-lines-k.is in
    let lt = c.requires.earlier c.args.k j s (subst (λ v. Names v.rule j) e h) in
    let l = c.requires.kept.len in
    let m = length-set c.args.places.now c.args.k c.len.result in
    let n = c.requires.small in
    omega (arith, lt, l, m, n)

pub returns : goal.returns
returns c =
    let s : c.args.k < length c.args.lines.now = (let f = c.requires.fits in let s = c.requires.small in omega arith) in
    let e = same_line c.args.lines.now c.args.k c.index-lines-k.result s c.index-lines-k.is in
    keeps_as c.args.lines.now c.requires.earlier c.args.needed.now c.args.k c.requires.small c.requires.fits c.args.places.now c.args.out.now.items c.requires.kept
    c.index-lines-k.result c.moved-rule.result c.len.result c.push.new.lines.items (search rules) e c.moved-rule.ensures c.in_ok-push.ensures.items c.if-not-needed-k.false
