use Rattle.mm_object.{specs.{Answers.number_of, Format.good_reloc}, proofs.Framed.{framed_got, framed_bad}}
use Rattle.mm_object.proofs.reloc_records.read_reloc.Goals as goal

pub returns-in-Ok : goal.returns-in-Ok
returns-in-Ok c =
    let r = c.args.reader.now in
    let row = good_reloc c.args.segments.now c.args.externals c.args.least in
    let read = framed_got 13 row 7 r.bytes.now r.at _ _ c.in_ok-raw.ensures.read.0 _ _ c.in-Ok.ensures.read.0 in
    record { read = (read, c.in-Ok.ensures.read.1) }

pub returns-in-Err : goal.returns-in-Err
returns-in-Err c =
    let r = c.args.reader.now in
    let row = good_reloc c.args.segments.now c.args.externals c.args.least in
    let refused = framed_bad 13 row 7 r.bytes.now r.at _ _ c.in_ok-raw.ensures.read.0 number_of _ c.in-Err.ensures.read.0 in
    record { read = (rw c.failed.ensures refused, c.in-Err.ensures.read.1) }
