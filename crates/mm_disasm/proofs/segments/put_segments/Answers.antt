use Rattle.mm_disasm.specs.Canonical.{segment_text}
use Rattle.mm_disasm.proofs.Numbering.{appends_numbered_item, appends_all, segments_numbered}
use Rattle.mm_disasm.proofs.segments.put_segments.Goals as goal

pub loop-number-preserved : goal.loop-number-preserved
loop-number-preserved g c =
    appends_numbered_item (segment_text c.args.o.now) c.args.segments.now c.loop-number.number c.index-segments-number.result c.loop-number-test.true
    c.index-segments-number.is c.loop-number.invariant c.put_segment.ensures

pub returns : goal.returns
returns g c =
    appends_all (segment_text c.args.o.now) c.args.segments.now c.loop-number.number c.loop-number-test.false
    (segments_numbered c.args.o.now 0 c.args.segments.now) c.loop-number.invariant
