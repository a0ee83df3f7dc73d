use Rattle.std.proofs.{Common.subst, Math.Nat.le_antisymm}
use Rattle.mm_graph.specs.Key.{no_key}
use Rattle.mm_audit.{specs.Marks.{Added, SpansOf}, proofs.Spanning.{spans_first, spans_more}}
use Rattle.mm_audit.proofs.spans.spans_of.Goals as goal

pub loop-k-init : goal.loop-k-init
loop-k-init c =
    spans_first c.args.keys.now c.args.nodes.now c.args.marks.now c.args.privileged c.add.new.spans.items
    (subst (λ v. Added v _ c.add.new.spans.items) c.whole_span.ensures (subst (λ v. Added c.whole_span.result v c.add.new.spans.items) c.in_ok-spans.ensures.items c.in_ok-add.ensures))

pub loop-k-preserved : goal.loop-k-preserved
loop-k-preserved c =
    spans_more c.args.keys.now c.args.nodes.now c.args.marks.now c.args.privileged c.requires.rising c.requires.keys
    c.requires.words c.loop-k.k c.loop-k-test.true c.loop-k.spans.items c.loop-k.invariant
    c.add-in-loop-k.new.spans.items
    (subst (λ v. Added v c.loop-k.spans.items c.add-in-loop-k.new.spans.items) c.node_span.ensures c.in_ok-add-2.ensures)

pub node_span-requires : goal.node_span-requires
node_span-requires c = c.requires.keys c.loop-k.k no_key c.loop-k-test.true

pub returns : goal.returns
returns c =
    subst (λ top. SpansOf c.args.keys.now c.args.nodes.now c.args.marks.now c.args.privileged top c.loop-k.spans.items)
    (le_antisymm c.loop-k.auto.k-end c.loop-k-test.false) c.loop-k.invariant
