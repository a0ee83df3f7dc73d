use Rattle.std.proofs.Common.{◌≡◌, length, replicate, rules, sym, ◌∙◌, subst, arith}
use Rattle.mm_graph.{specs.Nodes.IsMarks, proofs.Marking.marks_start}
use Rattle.mm_graph.proofs.mark.marks_of.Goals as goal

pub mark_all-requires-clause-none : goal.mark_all-requires-clause-none
mark_all-requires-clause-none c =
    let e : c.in_ok-marks.marks.items ≡ replicate (length c.args.keys.now) 0 = search rules in
    subst (IsMarks c.args.keys.now _) (sym (c.deref_mut.ensures.value ∙ e)) (marks_start c.args.keys.now (length c.args.keys.now) (omega arith))
