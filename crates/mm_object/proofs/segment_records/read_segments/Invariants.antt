use Rattle.std.proofs.Common.{◌≡◌, ◌-◌, ◌≤◌, [], vec_len}
use Rattle.mm_format.{specs.Formats.times, proofs.Loops.prefixed}
use Rattle.mm_object.specs.{Format.{segment_row, push}, Objects.words_of}
use Rattle.mm_object.proofs.segment_records.read_segments.Given as goal

abbrev pub invariant-loop : goal.invariant-loop
invariant-loop l = record {
  read : prefixed l.segments.items
      ((times segment_row push (l.count - l.counter) l.segments.items).read l.reader.bytes.now l.reader.at)
      ≡ (times segment_row push l.count []).read l.initial.reader.bytes.now l.initial.reader.at;
  same : l.reader.bytes.now ≡ l.initial.reader.bytes.now;
  words : l.words ≡ words_of l.segments.items;
  few : l.words ≤ 131072;
  count : vec_len l.segments ≡ l.counter;
}
