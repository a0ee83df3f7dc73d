use Rattle.std.{proofs.Common.take, specs.List.flat_map}
use Rattle.mm_text.specs.Appends.{Appends}
use Rattle.mm_report.{specs.Changes.{contents, lines_of}, proofs.CellPlaces.page_changes}
use Rattle.mm_report.proofs.cells.put_cells.Given as goal

abbrev pub invariant-loop-i : goal.invariant-loop-i
invariant-loop-i g l = Appends g.O.Sink.taken g.O.Sink.faults l.initial.out l.out l.initial.text l.text
    (flat_map (λ page. lines_of (page_changes (contents l.pages) page)) (take l.i (g.M.Memory.meaning l.mem).pages))
