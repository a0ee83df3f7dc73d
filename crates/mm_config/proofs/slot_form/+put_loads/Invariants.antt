use Rattle.std.proofs.Common.{length}
use Rattle.mm_config.proofs.slot_form.+put_loads.Given as goal

abbrev pub decreases-put_loads : goal.decreases-put_loads
decreases-put_loads l = length l.loads.now
