use Rattle.std.proofs.Common.{◌≡◌, ◌-◌, ◌+◌, ◌^◌, sym, ap, ◌∙◌, subst, arith}
use Rattle.mm_audit.specs.{Walks.outermost, Audits.set_of, GroupSets.AreGroupSets}
use Rattle.mm_audit.proofs.{Bits.clear_bit, Collecting.{sets_more, same_set}}
use Rattle.mm_audit.proofs.sets.group_sets.Goals.{then-g-gt0+then-changed-g-eq0+in_ok-push_same}
use Rattle.mm_audit.proofs.sets.group_sets.Goals.{else-g-gt0+in_ok-set+in_ok-push}
use Rattle.mm_graph.proofs.OneBits.{one_bit}
use Rattle.mm_audit.proofs.sets.group_sets.Goals as goal

pub loop-g-preserved : goal.loop-g-preserved
loop-g-preserved c =
    elim c.if-g-gt0.branch [
      | then-g-gt0+then-changed-g-eq0+in_ok-push_same w ↦
          let last = c.loop-g.g - 1 in
          let up : last + 1 ≡ c.loop-g.g = (let some = w.if-g-gt0.true in omega arith) in
          let before = c.loop-g.invariant.each last (omega arith) in
          let same = same_set c.args.spans.now c.args.how last (c.changes-changed.ensures last (clear_bit _ _ w.if-changed-g-eq0.true)) in
          subst (AreGroupSets c.args.spans.now c.args.how (c.loop-g.g + 1)) (sym (w.sets-is ∙ w.in_ok-push_same.ensures))
          (sets_more c.args.spans.now c.args.how c.loop-g.g c.loop-g.sets (set_of c.loop-g.sets last)
          c.loop-g.invariant (before ∙ same ∙ ap (λ v. outermost c.args.how (2 ^ v) 0 c.args.spans.now) up))
      | else-g-gt0+in_ok-set+in_ok-push w ↦
          subst (AreGroupSets c.args.spans.now c.args.how (c.loop-g.g + 1)) (sym (w.sets-is ∙ w.in_ok-push.ensures))
          (sets_more c.args.spans.now c.args.how c.loop-g.g c.loop-g.sets w.in_ok-set.set c.loop-g.invariant
          (w.in_ok-set.ensures ∙ ap (λ v. outermost c.args.how v 0 c.args.spans.now)
          (one_bit c.loop-g.g c.loop-g-test.true)))
    ]
