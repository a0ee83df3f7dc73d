use Rattle.std.proofs.{Common.{◌≡◌, ◌+◌, false, ap, subst, ◌∙◌, arith}, lemmas.Result.err_from_is_err_and}
use Rattle.mm_format.specs.{Formats.Parsed.Got, Reading.FailsOr, Images.bits_in}
use Rattle.mm_format.proofs.{Images.{bits_count, bits_item}, Loops.{each_more, each_stop, each_read, fails_so}}
use Rattle.mm_object.specs.{Answers.number_of, Format.item_row}
use Rattle.mm_object.proofs.segment_records.read_items.Goals as goal

pub returns-in_err-item-clause-read : goal.returns-in_err-item-clause-read
returns-in_err-item-clause-read c =
    let p = err_from_is_err_and c.from_residual-in_err-item.result c.from_residual-in_err-item.ensures.1 in
    let l = c.loop-k in
    let bytes = l.reader.bytes.now in
    let flags = bits_in c.args.count c.args.bitmap.now in
    let e = c.in_err-item.field-0.0 in
    let fails = subst (λ b. FailsOr ⊥ number_of ((item_row b).read bytes l.reader.at) e)
    (c.bit.ensures ∙ bits_item c.args.count c.args.bitmap.now l.k c.loop-k-test.true) c.in_err-item.ensures.read.0 in (
      rw (p.1, p.2) (each_stop item_row flags l.k false bytes l.reader.at l.items.items _ l.invariant.read
          (omega (arith, bits_count c.args.count c.args.bitmap.now, c.loop-k-test.true)) number_of _ e
          (fails_so number_of _ _ e fails)),
      c.in_err-item.ensures.read.1 ∙ c.loop-k.invariant.same,
    )

pub loop-k-preserved : goal.loop-k-preserved
loop-k-preserved c =
    let l = c.loop-k in
    let bytes = l.reader.bytes.now in
    let flags = bits_in c.args.count c.args.bitmap.now in
    let a = c.in_ok-item.item in
    let next = c.read_item.new.reader.at in
    let read = subst (λ b. (item_row b).read bytes l.reader.at ≡ Got a next)
    (c.bit.ensures ∙ bits_item c.args.count c.args.bitmap.now l.k c.loop-k-test.true) c.in_ok-item.ensures.read.0 in
    record {
      read = rw (c.in_ok-item.ensures.read.1, c.in_ok-push.ensures.items)
          (each_more item_row flags l.k false bytes l.reader.at l.items.items _ l.invariant.read
          (omega (arith, bits_count c.args.count c.args.bitmap.now, c.loop-k-test.true)) a next read);
      same = c.in_ok-item.ensures.read.1 ∙ l.invariant.same;
      count = c.in_ok-push.ensures.len ∙ ap (λ n. n + 1) l.invariant.count;
    }

pub returns-clause-read : goal.returns-clause-read
returns-clause-read c =
    let l = c.loop-k in (
      each_read item_row (bits_in c.args.count c.args.bitmap.now) l.k false l.reader.bytes.now l.reader.at l.items.items _
          l.invariant.read (omega (arith, bits_count c.args.count c.args.bitmap.now, c.loop-k-test.false)),
      l.invariant.same,
    )
