use Rattle.std.proofs.Common.{◌≡◌, ◌++◌, length}
use Rattle.mm_config.specs.Forms.{queue_from}
use Rattle.mm_config.proofs.events.take_events.Given as goal

abbrev pub invariant-loop-reader : goal.invariant-loop-reader
invariant-loop-reader l = l.events.items ++ queue_from l.reader ≡ l.fn.events.items ++ queue_from l.fn.reader

abbrev pub decreases-loop-reader : goal.decreases-loop-reader
decreases-loop-reader l = length l.reader
