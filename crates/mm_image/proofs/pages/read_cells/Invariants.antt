use Rattle.std.proofs.Common.{◌≡◌, map, take, drop, vec_len}
use Rattle.mm_word.specs.declared.word.Cell.{Cell}
use Rattle.mm_format.{specs.{Formats.each, Images.{word, bits_in}}, proofs.Loops.prefixed}
use Rattle.mm_image.proofs.pages.read_cells.Given as goal

abbrev pub invariant-loop-index : goal.invariant-loop-index
invariant-loop-index l = record {
  read : prefixed (map (λ (c : Cell). c.word) l.cells.items)
      ((each word (drop l.index (bits_in 512 l.tags))).read l.reader.bytes.now l.reader.at)
      ≡ (each word (bits_in 512 l.tags)).read l.initial.reader.bytes.now l.initial.reader.at;
  full : map (λ (c : Cell). c.full) l.cells.items ≡ take l.index (bits_in 512 l.full);
  same : l.reader.bytes.now ≡ l.initial.reader.bytes.now;
  count : vec_len l.cells ≡ l.index;
}
