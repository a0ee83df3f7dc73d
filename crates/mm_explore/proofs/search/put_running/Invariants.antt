use Rattle.std.{proofs.Common.{◌≡◌, ◌++◌, take}, specs.List.flat_map}
use Rattle.mm_model.specs.Fits.{slots_of}
use Rattle.mm_explore.specs.MoveLists.{running_item}
use Rattle.mm_explore.proofs.search.put_running.Given as goal

abbrev pub invariant-loop-at : goal.invariant-loop-at
invariant-loop-at l = l.out.items ≡ l.fn.out.items ++ flat_map running_item (take l.at (slots_of l.core))
