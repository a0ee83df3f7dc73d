use Rattle.std.specs.List.{flat_map, range_with_len}
use Rattle.mm_kernel.specs.Derived.{register_shown}
use Rattle.mm_keep.specs.Claims.{AddsFacts}
use Rattle.mm_keep.proofs.follow.show.Given as goal

abbrev pub invariant-loop-reg : goal.invariant-loop-reg
invariant-loop-reg l = AddsFacts l.kernel.image l.kernel.kept (flat_map (register_shown l.kernel.kept l.t) (range_with_len 0 l.reg)) l.initial.tables l.tables
