use Rattle.std.proofs.Common.{◌≡◌, [], drop}
use Rattle.mm_link.{specs.{Faults.first_again, Steps.part_names}, proofs.Again.before_of}
use Rattle.mm_link.proofs.names.check_apart.Given as goal

abbrev pub invariant-loop-part : goal.invariant-loop-part
invariant-loop-part l = first_again (before_of l.names.keys) (part_names (drop l.part-index l.parts)) ≡ first_again [] (part_names l.parts)
