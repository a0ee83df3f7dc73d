-- A report with a count line is one without it, and the line behind.
use Rattle.std.proofs.Common.{◌≡◌, ℕ, List, ◌++◌, Some, None, sym, ap, append-nil}
use Rattle.mm_model.specs.{declared.counts.Counts.Counts, State.State, Image.{Image, start}, Run.{run, uses}}
use Rattle.mm_model.specs.Counted.{counts_of}
use Rattle.mm_model.specs.Report.{report, count_line, cycles_line, sections, page_lines, cell_lines}
use Rattle.mm_top.specs.Memories.{CountsStandBehind}

pub report_behind : (s : State) (i : Image) (c : Counts) → report s i (Some c) ≡ report s i None ++ count_line (Some c)
unfolding report
report_behind s i c =
    let front : List ℕ = cycles_line s.cycles ++ sections s.core ++ page_lines s.memory i.memory ++ cell_lines s.memory i.memory in
    ap (λ (text : List ℕ). text ++ count_line (Some c)) (sym (append-nil front))

pub counts_behind : CountsStandBehind (λ us. Some (counts_of us)) (λ us. None)
counts_behind i items = report_behind (run (start i) items) i (counts_of (uses (start i) items))
