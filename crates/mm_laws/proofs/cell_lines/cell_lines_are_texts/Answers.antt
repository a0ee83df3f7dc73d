use Rattle.mm_model.specs.{Report.changes, Reach.Entries.All, Worlds.Touchable}
use Rattle.mm_laws.proofs.{CellTexts.{lines_are_one, lines_are_some, lines_are_same}, WholeRuns.cells_written}
use Rattle.mm_laws.proofs.cell_lines.cell_lines_are_texts.Goals as goal

pub returns : goal.returns
returns c = record {
  one = λ i d s one other a b. lines_are_one (Touchable i All d) (changes s.memory i.memory) one other a b;
  some = λ i d s. lines_are_some (Touchable i All d) (changes s.memory i.memory);
  same = lines_are_same;
  written = cells_written;
}
