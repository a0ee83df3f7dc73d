use Rattle.std.proofs.Common.{◌≡◌, drop, vec_len}
use Rattle.mm_format.{specs.{Formats.each, Images.bits_in}, proofs.Loops.prefixed}
use Rattle.mm_object.specs.Format.{item_row}
use Rattle.mm_object.proofs.segment_records.read_items.Given as goal

abbrev pub invariant-loop-k : goal.invariant-loop-k
invariant-loop-k l = record {
  read : prefixed l.items.items
      ((each item_row (drop l.k (bits_in l.fn.count l.bitmap))).read l.reader.bytes.now l.reader.at)
      ≡ (each item_row (bits_in l.fn.count l.bitmap)).read l.initial.reader.bytes.now l.initial.reader.at;
  same : l.reader.bytes.now ≡ l.initial.reader.bytes.now;
  count : vec_len l.items ≡ l.k;
}
