use Rattle.std.{proofs.Common.{◌≡◌, ◌++◌, map}, specs.List.filter}
use Rattle.mm_keep_text.proofs.Ranges.{of_origin, part_in}
use Rattle.mm_keep_text.proofs.parts.parts_of.Given as goal

abbrev pub invariant-loop-used : goal.invariant-loop-used
invariant-loop-used l = l.parts.items ++ map part_in l.used-iterator ≡ map part_in (filter (of_origin l.fn.origin) l.uses.keys)
