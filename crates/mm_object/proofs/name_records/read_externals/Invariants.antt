use Rattle.std.proofs.Common.{◌≡◌, ◌-◌, [], vec_len}
use Rattle.mm_format.{specs.Formats.times, proofs.Loops.prefixed}
use Rattle.mm_object.specs.Format.{external_row, push}
use Rattle.mm_object.proofs.name_records.read_externals.Given as goal

abbrev pub invariant-loop : goal.invariant-loop
invariant-loop l = record {
  read : prefixed l.names.items
      ((times (external_row l.segments) push (l.count - l.counter) l.names.items).read l.reader.bytes.now l.reader.at)
      ≡ (times (external_row l.segments) push l.count []).read l.initial.reader.bytes.now l.initial.reader.at;
  same : l.reader.bytes.now ≡ l.initial.reader.bytes.now;
  count : vec_len l.names ≡ l.counter;
}
