use Rattle.std.proofs.Common.{◌≡◌, ◌+◌, ◌∙◌, Bool, true, false, sym, subst}
use Rattle.mm_model.specs.Groups.{among}
use Rattle.mm_audit.proofs.Crossings.{Best, cross_more, cross_skip}
use Rattle.mm_audit.proofs.apart_groups.crossing.Goals.{then-crosses, else-crosses}
use Rattle.mm_audit.proofs.apart_groups.crossing.Goals as goal

pub loop-k-preserved : goal.loop-k-preserved
loop-k-preserved c = elim c.if-crosses.branch [
  | then-crosses w ↦ subst (Best c.args.served.now (among c.args.groups.now) c.loop-k.k (c.loop-k.k + 1)) (sym w.best-is)
      (cross_more c.args.served.now (among c.args.groups.now) c.loop-k.k c.loop-k.best w.lesser.result (c.crosses.ensures.0 w.if-crosses.true) w.lesser.ensures c.loop-k.invariant)
  | else-crosses w ↦ subst (Best c.args.served.now (among c.args.groups.now) c.loop-k.k (c.loop-k.k + 1)) (sym w.best-is)
      (cross_skip c.args.served.now (among c.args.groups.now) c.loop-k.k c.loop-k.best
      (λ x. let yes_crosses = c.crosses.ensures.1 x in let no_way : ◌≡◌ {A = Bool} true false = sym yes_crosses ∙ w.if-crosses.false in cc) c.loop-k.invariant)
]
