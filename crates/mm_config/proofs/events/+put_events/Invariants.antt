use Rattle.std.proofs.Common.{length}
use Rattle.mm_config.proofs.events.+put_events.Given as goal

abbrev pub decreases-put_events : goal.decreases-put_events
decreases-put_events l = length l.events.now
