use Rattle.std.proofs.Common.{◌≡◌, drop}
use Rattle.mm_format.specs.{Formats.first_late, Images.handler_tests}
use Rattle.mm_image.proofs.slots.test_handlers.Given as goal

abbrev pub invariant-loop-k : goal.invariant-loop-k
invariant-loop-k l = first_late 16 (handler_tests l.slots l.k (drop l.k l.slots))
    ≡ first_late 16 (handler_tests l.slots 0 l.slots)
