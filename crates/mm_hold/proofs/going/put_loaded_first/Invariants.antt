use Rattle.std.{proofs.Common.{◌≡◌, ◌++◌, take}, specs.List.flat_map}
use Rattle.mm_hold.specs.Deeds.{loaded_with}
use Rattle.mm_hold.proofs.going.put_loaded_first.Given as goal

abbrev pub invariant-loop-held : goal.invariant-loop-held
invariant-loop-held l = l.deeds.items ≡ l.initial.deeds.items ++ flat_map (loaded_with l.kernel.kept l.part l.reg l.next) (take l.held-index l.first)
