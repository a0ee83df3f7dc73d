use Rattle.std.proofs.Common.{◌≡◌, ◌+◌, List, length, refl, sym, ap, subst, ◌∙◌, arith}
use Rattle.std.proofs.lemmas.Result.{err_from_is_err_and}
use Rattle.mm_format.{specs.{Formats.Parsed.Got, Reading.FailsOr}, proofs.Loops.{times_more, times_stop, times_read}}
use Rattle.mm_object.specs.{Answers.number_of, Format.{segment_row, push}, Objects.{Segment, words_of}}
use Rattle.mm_object.proofs.{FormatFits.words_of-push, Readings.push_begin}
use Rattle.mm_object.proofs.segment_records.read_segments.Goals as goal

pub loop-init : goal.loop-init
loop-init c =
    let r = c.args.reader.now in
    let none = c.in_ok-segments.ensures.items in
    record {
      read = push_begin segment_row c.args.count r.bytes.now r.at _ none;
      same = refl;
      words = ap words_of (sym none);
      few = omega arith;
      count = c.in_ok-segments.ensures.len;
    }

pub read_segment-requires-clause-words : goal.read_segment-requires-clause-words
read_segment-requires-clause-words c = c.loop.invariant.words ∙ ap words_of (sym c.deref.ensures.value)

pub returns-in_err-segment-clause-read : goal.returns-in_err-segment-clause-read
returns-in_err-segment-clause-read c =
    let p = err_from_is_err_and c.from_residual-in_err-segment.result c.from_residual-in_err-segment.ensures.1 in
    let l = c.loop in
    let bytes = l.reader.bytes.now in
    let e = c.in_err-segment.field-0.0 in
    let fails = subst (λ (xs : List Segment). FailsOr (Unit {0}) number_of ((segment_row xs).read bytes l.reader.at) e)
    c.deref.ensures.value c.in_err-segment.ensures.read.0 in (
      rw (p.1, p.2) (times_stop segment_row push c.args.count l.counter l.segments.items bytes l.reader.at l.segments.items
          _ l.invariant.read (omega (arith, c.loop-test.true, c.from-end.ensures)) number_of _ e fails),
      c.in_err-segment.ensures.read.1 ∙ c.loop.invariant.same,
    )

pub loop-preserved : goal.loop-preserved
loop-preserved c =
    let l = c.loop in
    let bytes = l.reader.bytes.now in
    let s = c.in_ok-segment.segment in
    let next = c.read_segment.new.reader.at in
    let given = c.in_ok-segment.ensures in
    let read = subst (λ (xs : List Segment). (segment_row xs).read bytes l.reader.at ≡ Got s next) c.deref.ensures.value
    given.read.0 in
    let items : c.len-words.result ≡ length s.items =
    omega (arith, c.len-words.ensures, c.segment.inside.items.ok.0, ap (λ (x : Segment). length x.items) c.segment.view_is) in
    record {
      read = rw (given.read.1, c.in_ok-push.ensures.items)
          (times_more segment_row push c.args.count l.counter l.segments.items bytes l.reader.at l.segments.items _
          l.invariant.read (omega (arith, c.loop-test.true, c.from-end.ensures)) s next read);
      same = given.read.1 ∙ l.invariant.same;
      words = ap (λ n. l.words + n) items ∙ ap (λ n. n + length s.items) l.invariant.words
          ∙ sym (words_of-push l.segments.items s)
          ∙ ap words_of (sym c.in_ok-push.ensures.items);
      few = omega (arith, items, given.few);
      count = c.in_ok-push.ensures.len ∙ ap (λ n. n + 1) l.invariant.count;
    }

pub returns-clause-read : goal.returns-clause-read
returns-clause-read c =
    let l = c.loop in (
      times_read segment_row push c.args.count l.counter l.segments.items l.reader.bytes.now l.reader.at l.segments.items _
          l.invariant.read (omega (arith, c.loop-test.false, c.from-end.ensures)),
      l.invariant.same,
    )
