use Rattle.std.{proofs.Common.{◌≡◌, ◌++◌, take}, specs.List.flat_map}
use Rattle.mm_word.specs.declared.word.Cell.{Cell}
use Rattle.mm_kernel.specs.Segments.{pointers_in}
use Rattle.mm_keep.proofs.live.put_cells.Given as goal

abbrev pub invariant-loop-cell : goal.invariant-loop-cell
invariant-loop-cell l = l.out.items ≡ l.initial.out.items ++ flat_map (λ (c : Cell). pointers_in c.word) (take l.cell-index l.cells)
