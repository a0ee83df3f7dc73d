use Rattle.std.{proofs.Common.{length, sym, ap, ◌∙◌, subst}, specs.List.All}
use Rattle.mm_graph.specs.{Key.{IsKey, IsRising}, Masks.meaning}
use Rattle.mm_audit.proofs.MarkedSpans.{are_privileged, are_spans}
use Rattle.mm_audit.proofs.surveying.granted_in.Goals as goal

pub spans_of-requires-clause-rising : goal.spans_of-requires-clause-rising
spans_of-requires-clause-rising c = subst IsRising (sym c.deref-3.ensures.value) c.in_ok-m.ensures.rising

pub spans_of-requires-clause-keys : goal.spans_of-requires-clause-keys
spans_of-requires-clause-keys c = subst (All IsKey) (sym c.deref-3.ensures.value) c.in_ok-m.ensures.all

pub spans_of-requires-clause-nodes : goal.spans_of-requires-clause-nodes
spans_of-requires-clause-nodes c =
    ap length c.deref-4.ensures.value ∙ c.in_ok-m.ensures.nodes_len ∙ ap length (sym c.deref-3.ensures.value)

pub spans_of-requires-clause-marks : goal.spans_of-requires-clause-marks
spans_of-requires-clause-marks c =
    ap length c.deref-5.ensures.value ∙ c.in_ok-m.ensures.marks_len ∙ ap length (sym c.deref-3.ensures.value)

pub returns-clause-privileged : goal.returns-clause-privileged
returns-clause-privileged c =
    are_privileged c.args.img.now (meaning c.args.entries.now) c.requires c.in_ok-m.m.keys.items c.in_ok-m.m.nodes.items c.in_ok-m.m.marks.items c.in_ok-m.ensures c.any-privileged.result
    (λ g. rw (c.deref.ensures.value, c.deref-2.ensures.value) at (c.any-privileged.ensures g))

pub returns-clause-spans : goal.returns-clause-spans
returns-clause-spans c =
    are_spans c.args.img.now (meaning c.args.entries.now) c.requires c.in_ok-m.m.keys.items c.in_ok-m.m.nodes.items c.in_ok-m.m.marks.items c.in_ok-m.ensures c.any-privileged.result
    (λ g. rw (c.deref.ensures.value, c.deref-2.ensures.value) at (c.any-privileged.ensures g)) c.in_ok-spans.spans.items
    (rw (c.deref-3.ensures.value, c.deref-4.ensures.value, c.deref-5.ensures.value) at c.in_ok-spans.ensures)
