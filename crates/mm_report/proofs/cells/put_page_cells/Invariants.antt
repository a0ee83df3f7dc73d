use Rattle.std.{proofs.Common.{◌*◌, take}, specs.List.{flat_map, range_with_len}}
use Rattle.mm_text.specs.Appends.{Appends}
use Rattle.mm_report.specs.Changes.{contents, cells_of, line_at}
use Rattle.mm_report.proofs.cells.put_page_cells.Given as goal

abbrev pub invariant-loop-index : goal.invariant-loop-index
invariant-loop-index g l = Appends g.O.Sink.taken g.O.Sink.faults l.initial.out l.out l.initial.text l.text
    (flat_map (line_at (l.number * 4096) (cells_of (g.M.Memory.meaning l.mem) l.number) (cells_of (contents l.pages) l.number)) (take l.index (range_with_len 0 512)))
