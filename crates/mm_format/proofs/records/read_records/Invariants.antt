use Rattle.std.proofs.Common.{◌≡◌, ◌-◌, vec_len}
use Rattle.mm_format.{specs.Formats.runs, proofs.Loops.prefixed}
use Rattle.mm_format.proofs.records.read_records.Given as goal

abbrev pub invariant-loop : goal.invariant-loop
invariant-loop g l = record {
  read : prefixed l.items.items
      (runs g.R.Records.reads g.R.Records.onward (l.count - l.counter) l.records l.reader.bytes.now l.reader.at)
      ≡ runs g.R.Records.reads g.R.Records.onward l.count l.initial.records l.initial.reader.bytes.now l.initial.reader.at;
  same : l.reader.bytes.now ≡ l.initial.reader.bytes.now;
  count : vec_len l.items ≡ l.counter;
}
