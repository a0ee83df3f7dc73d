-- The report, from its parts.
use Rattle.std.proofs.Common.{◌≡◌, ℕ, List, ◌++◌, Option, refl}
use Rattle.mm_word.specs.declared.word.Cell.{Cell}
use Rattle.mm_model.specs.{declared.counts.Counts.Counts, Memory.Memory, State.State, Image.Image}
use Rattle.mm_model.specs.Report.{cycles_line, sections, page_lines, cell_lines, count_line, report}
use Rattle.mm_report.specs.Changes.{contents}

pub report_text : (s : State) (i : Image) (told counts : Option Counts) (cycles : ℕ) (memory : Memory) (pages : List (ℕ × List Cell))
    → cycles ≡ s.cycles → memory ≡ s.memory → pages ≡ i.memory.pages → counts ≡ told
    → cycles_line cycles ++ sections s.core ++ page_lines memory (contents pages) ++ cell_lines memory (contents pages) ++ count_line counts ≡ report s i told
unfolding report
report_text s i told counts cycles memory pages ec em ep et = rw (ec, em, ep, et) refl
