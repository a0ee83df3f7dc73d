use Rattle.std.proofs.Common.{◌≡◌, drop, vec_len}
use Rattle.mm_format.{specs.Formats.each, proofs.Loops.prefixed}
use Rattle.mm_checkpoint.specs.Format.{slot_row}
use Rattle.mm_checkpoint.proofs.rows.read_rows.Given as goal

abbrev pub invariant-loop-slot : goal.invariant-loop-slot
invariant-loop-slot l = record {
  read : prefixed l.rows.items
      ((each (slot_row l.split l.cycles) (drop l.slot-index l.known)).read l.reader.bytes.now l.reader.at)
      ≡ (each (slot_row l.split l.cycles) l.known).read l.initial.reader.bytes.now l.initial.reader.at;
  same : l.reader.bytes.now ≡ l.initial.reader.bytes.now;
  count : vec_len l.rows ≡ l.slot-index;
}
