use Rattle.std.proofs.lemmas.Result.{err_from_is_err_and}
use Rattle.mm_object.specs.{Answers.number_of, Format.{pointers_from, pointers_row, uses_in}}
use Rattle.mm_object.proofs.Readings.{late_refused}
use Rattle.mm_object.proofs.reading.read_used.Goals as goal

pub returns-in_err-test_uses : goal.returns-in_err-test_uses
returns-in_err-test_uses c =
    let p = err_from_is_err_and c.from_residual-in_err-test_uses.result c.from_residual-in_err-test_uses.ensures.1 in
    let r = c.args.reader.now in
    let own = c.in_ok-pointers.pointers in
    let fails = rw (c.deref.ensures.value, c.deref-2.ensures.value, c.deref-3.ensures.value)
    at c.in_err-test_uses.ensures in
    let refused = late_refused number_of _ (uses_in c.args.segments.now) r.at
    ((pointers_row c.args.segments.now c.args.header).read r.bytes.now r.at)
    (pointers_from own.externals.items own.relocs.items own.threads.items) _ c.in_ok-pointers.ensures.read.0
    c.in_err-test_uses.field-0.0 fails in
    record { read = (rw (p.1, p.2) refused, c.in_ok-pointers.ensures.read.1) }
