use Rattle.std.proofs.Common.{◌≡◌, ◌++◌, drop}
use Rattle.mm_link.specs.Linked.{cells_from}
use Rattle.mm_link.proofs.memory.push_items.Given as goal

abbrev pub invariant-loop-word : goal.invariant-loop-word
invariant-loop-word l = l.cells.items ++ cells_from l.sites l.object l.segment l.word (drop l.word l.items) ≡ l.initial.cells.items ++ cells_from l.sites l.object l.segment 0 l.items
