use Rattle.std.proofs.Common.{ap, ◌∙◌}
use Rattle.mm_object.{specs.Objects.Segment, proofs.Keys.segment_known}
use Rattle.mm_object.proofs.known.known_names.Goals as goal

pub loop-segment-preserved : goal.loop-segment-preserved
loop-segment-preserved c =
    let l = c.loop-segment in
    let same = c.bytes.ensures.bytes ∙ ap (λ (x : Segment). x.name) c.segment.view_is in
    segment_known l.known.keys c.insert.new.self.keys c.bytes.result c.args.segments.now l.segment-index
    c.segment-item.result c.segment-item.is c.loop-segment-test.true same c.in_ok-insert.ensures.keys l.invariant
