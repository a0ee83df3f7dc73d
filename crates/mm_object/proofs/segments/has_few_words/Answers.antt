use Rattle.std.proofs.Common.{◌+◌, length, ap, arith}
use Rattle.mm_object.{specs.Objects.Segment, proofs.Totals.{words_of-more, words_of-take}}
use Rattle.mm_object.proofs.segments.has_few_words.Goals as goal

pub returns-then-len-words : goal.returns-then-len-words
returns-then-len-words c =
    let l = c.loop-segment in
    let segments = c.args.segments.now in
    let items = ap (λ (s : Segment). length s.items) c.segment.view_is in
    let this = ap (λ (s : Segment). length s.items) c.segment-item.is in (
      λ f. absurd cc,
      λ few. absurd (omega (arith, items, this, words_of-more segments l.segment-index c.segment-item.result c.loop-segment-test.true, words_of-take segments (l.segment-index + 1), few)),
    )

pub loop-segment-preserved : goal.loop-segment-preserved
loop-segment-preserved c =
    let l = c.loop-segment in
    let segments = c.args.segments.now in
    let items = ap (λ (s : Segment). length s.items) c.segment.view_is in
    let this = ap (λ (s : Segment). length s.items) c.segment-item.is in
    let more = words_of-more segments l.segment-index c.segment-item.result c.loop-segment-test.true in
    record { sum = omega (arith, items, this, more); few = omega (arith, items) }
