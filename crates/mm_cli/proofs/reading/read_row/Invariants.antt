use Rattle.std.proofs.Common.{◌≡◌, take}
use Rattle.arrayvec.specs.ArrayVec.{array_vec_len}
use Rattle.mm_cli.specs.{Words.{AreOfRow, spoken, texts}, declared.table.Tail.TheVariants.Nothing}
use Rattle.mm_cli.proofs.RowWords.{ReadSoFar}
use Rattle.mm_cli.proofs.reading.read_row.Given as goal

-- the words of the first parameters were read
abbrev pub invariant-loop-parameter : goal.invariant-loop-parameter
invariant-loop-parameter l = record {
  count : array_vec_len l.read ≡ l.parameter-index;
  formed : AreOfRow (take l.parameter-index l.parameters) Nothing l.read.items;
  so_far : ReadSoFar l.parameters l.tail (texts l.words) l.parameter-index (spoken l.read.items) (texts l.rest);
}
