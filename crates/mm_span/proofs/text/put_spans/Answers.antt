use Rattle.mm_text.proofs.Appending.{appends_item}
use Rattle.mm_span.specs.Spans.{span_line}
use Rattle.mm_span.proofs.text.put_spans.Goals as goal

pub loop-span-preserved : goal.loop-span-preserved
loop-span-preserved g c = appends_item (span_line c.args.verb.now) c.args.spans.now c.loop-span.span-index
    c.span-item.result c.loop-span-test.true c.span-item.is c.loop-span.invariant c.put_span.ensures
