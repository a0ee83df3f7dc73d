use Rattle.mm_object.{specs.{Answers.number_of, Format.good_thread}, proofs.Framed.{framed_got, framed_bad}}
use Rattle.mm_object.proofs.thread_records.read_thread.Goals as goal

pub returns-in-Ok-clause-read : goal.returns-in-Ok-clause-read
returns-in-Ok-clause-read c =
    let r = c.args.reader.now in (
      framed_got 140 (good_thread c.args.segments.now c.args.externals c.args.least) 8 r.bytes.now r.at _ _
          c.in_ok-raw.ensures.read.0 _ _ c.in-Ok.ensures.read.0,
      c.in-Ok.ensures.read.1,
    )

pub returns-in-Err-clause-read : goal.returns-in-Err-clause-read
returns-in-Err-clause-read c =
    let r = c.args.reader.now in (
      rw c.failed.ensures (framed_bad 140 (good_thread c.args.segments.now c.args.externals c.args.least) 8 r.bytes.now
          r.at _ _ c.in_ok-raw.ensures.read.0 number_of _ c.in-Err.ensures.read.0),
      c.in-Err.ensures.read.1,
    )
