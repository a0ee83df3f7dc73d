use Rattle.std.proofs.{Common.{◌+◌, refl, ap, ◌∙◌}, lemmas.Result.err_from_is_err_and}
use Rattle.mm_format.proofs.Loops.{runs_begin, runs_more, runs_stop, runs_read}
use Rattle.mm_format.proofs.records.read_records.Goals as goal

pub loop-init : goal.loop-init
loop-init g c = record {
  read = rw c.new-items.ensures.items
      (runs_begin g.R.Records.reads g.R.Records.onward c.args.count c.args.records.now c.args.reader.now.bytes.now
      c.args.reader.now.at);
  same = refl;
  count = c.new-items.ensures.len;
}

pub returns-in_err-item-clause-read : goal.returns-in_err-item-clause-read
returns-in_err-item-clause-read g c =
    let p = err_from_is_err_and c.from_residual.result c.from_residual.ensures.1 in
    let l = c.loop in (
      rw (p.1, p.2) (runs_stop g.R.Records.reads g.R.Records.onward c.args.count l.counter l.records l.reader.bytes.now l.reader.at
          l.items.items _ l.invariant.read c.loop-test.true g.K.FaultKind.number _ c.in_err-item.field-0.0
          c.in_err-item.ensures.read.0),
      c.in_err-item.ensures.read.1 ∙ l.invariant.same,
    )

pub loop-preserved : goal.loop-preserved
loop-preserved g c =
    let l = c.loop in
    record {
      read = rw (c.in_ok-push.ensures.items, c.in_ok-item.ensures.read.1, c.in_ok-item.ensures.next)
          (runs_more g.R.Records.reads g.R.Records.onward c.args.count l.counter l.records l.reader.bytes.now l.reader.at
          l.items.items _ l.invariant.read c.loop-test.true c.in_ok-item.item c.item.new.reader.at
          c.in_ok-item.ensures.read.0);
      same = c.in_ok-item.ensures.read.1 ∙ l.invariant.same;
      count = c.in_ok-push.ensures.len ∙ ap (λ n. n + 1) l.invariant.count;
    }

pub returns-clause-read : goal.returns-clause-read
returns-clause-read g c =
    let l = c.loop in (
      runs_read g.R.Records.reads g.R.Records.onward c.args.count l.counter l.records l.reader.bytes.now l.reader.at l.items.items _
          l.invariant.read c.loop-test.false,
      l.invariant.same,
    )
