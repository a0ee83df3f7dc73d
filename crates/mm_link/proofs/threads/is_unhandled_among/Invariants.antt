use Rattle.std.proofs.Common.{◌≡◌, drop}
use Rattle.mm_link.specs.Faults.{is_unhandled_in}
use Rattle.mm_link.proofs.threads.is_unhandled_among.Given as goal

abbrev pub invariant-loop-thread : goal.invariant-loop-thread
invariant-loop-thread l = is_unhandled_in l.objects l.slot (drop l.thread-index l.threads) ≡ is_unhandled_in l.objects l.slot l.threads
