use Rattle.std.proofs.Common.{◌≡◌, ◌++◌, ◌+◌, ◌-◌}
use Rattle.mm_link.specs.Linked.{pages_from, first_page}
use Rattle.mm_link.proofs.memory.pages_from.Given as goal

abbrev pub invariant-loop-number : goal.invariant-loop-number
invariant-loop-number l = l.pages.items ++ pages_from (l.count - l.number) (first_page + l.number) l.rest ≡ pages_from l.count first_page l.cells
