use Rattle.std.proofs.Common.{◌≡◌, ◌+◌, ◌-◌, sym, subst, arith}
use Rattle.mm_why.{specs.Pruning.Needs, proofs.Pruning.whole}
use Rattle.mm_why.proofs.prune.needed_by.Goals as goal

pub loop-k-preserved : goal.loop-k-preserved
loop-k-preserved c =
    let lt = c.loop-k-test.true in
    let here = c.loop-k.invariant in
    let before : Needs c.args.lines.now c.args.last (c.args.last - c.loop-k.k + 1) c.deref_mut.result.now =
    (let e : c.args.last + 1 - c.loop-k.k ≡ c.args.last - c.loop-k.k + 1 = omega arith in
    subst (Needs c.args.lines.now c.args.last (c.args.last - c.loop-k.k + 1)) (sym c.deref_mut.ensures.value) (subst (λ v. Needs c.args.lines.now c.args.last v c.loop-k.needed.items) e here)) in
    let now = c.need_at.ensures c.args.last before in
    let e : c.args.last - c.loop-k.k ≡ c.args.last + 1 - (c.loop-k.k + 1) = omega arith in
    subst (Needs c.args.lines.now c.args.last (c.args.last + 1 - (c.loop-k.k + 1)))
    (sym (whole c.need_at.new.needed _ c.loop-k.needed.len (let l = now.len in let h = here.len in let ok =
    c.loop-k.needed.ok.0 in omega (arith, l, h, ok))))
    (subst (λ v. Needs c.args.lines.now c.args.last v c.need_at.new.needed) e now)
