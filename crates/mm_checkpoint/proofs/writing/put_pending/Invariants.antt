use Rattle.std.{proofs.Common.{◌≡◌, ◌++◌, take}, specs.List.flat_map}
use Rattle.mm_checkpoint.specs.Format.{load_record}
use Rattle.mm_checkpoint.proofs.writing.put_pending.Given as goal

abbrev pub invariant-loop-load : goal.invariant-loop-load
invariant-loop-load l = l.out.items ≡ l.initial.out.items ++ flat_map load_record (take l.load-index l.pending)
