use Rattle.std.proofs.Common.{◌+◌, drop, length}
use Rattle.mm_report.{specs.{Changes.contents, Pages.numbers}, proofs.Unions.Written}
use Rattle.mm_report.proofs.page_changes.put_pages.Given as goal

abbrev pub invariant-loop-number : goal.invariant-loop-number
invariant-loop-number g l = Written g.O.Sink.taken g.O.Sink.faults l.initial.out l.out l.initial.text l.text (g.M.Memory.meaning l.mem) (contents l.pages) l.i l.j

abbrev pub decreases-loop-number : goal.decreases-loop-number
decreases-loop-number g l = length (drop l.i (numbers (g.M.Memory.meaning l.mem).pages)) + length (drop l.j (numbers l.pages))
