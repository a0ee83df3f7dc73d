use Rattle.std.proofs.Common.{sym, ap, ◌∙◌, bytes_eq}
use Rattle.mm_object.{specs.Objects.Segment, proofs.Among.{is_found, not_yet, not_found}}
use Rattle.mm_object.proofs.segments.has_name.Goals as goal

pub returns-then-is_same : goal.returns-then-is_same
returns-then-is_same c =
    let name = c.args.name.now in
    let same = sym (ap (λ (s : Segment). bytes_eq name s.name) c.segment.view_is) ∙ sym c.is_same.ensures ∙ c.if-is_same.true in
    is_found name c.args.segments.now c.loop-segment.segment-index c.segment-item.result c.segment-item.is c.loop-segment-test.true same

pub loop-segment-preserved : goal.loop-segment-preserved
loop-segment-preserved c =
    let name = c.args.name.now in
    let other = sym (ap (λ (s : Segment). bytes_eq name s.name) c.segment.view_is) ∙ sym c.is_same.ensures ∙ c.if-is_same.false in
    not_yet name c.args.segments.now c.loop-segment.segment-index c.segment-item.result c.segment-item.is c.loop-segment-test.true other c.loop-segment.invariant

pub returns : goal.returns
returns c = not_found c.args.name.now c.args.segments.now c.loop-segment.segment-index c.loop-segment.invariant c.loop-segment-test.false
