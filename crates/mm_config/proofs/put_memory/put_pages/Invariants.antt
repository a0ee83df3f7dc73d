use Rattle.std.proofs.Common.{◌≡◌, ◌⊎◌, ◌<◌}
use Rattle.mm_config.specs.Putting.{IsPutSoFar}
use Rattle.mm_config.proofs.put_memory.put_pages.Given as goal

abbrev pub invariant-loop-place : goal.invariant-loop-place
invariant-loop-place l = IsPutSoFar l.store l.changes (λ index name. (name ≡ 0) ⊎ (index < l.place-index)) l.fn.mem l.mem
