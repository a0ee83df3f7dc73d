use Rattle.mm_explore.proofs.laws.closed_sets_are_led_on.Goals as goal
use Rattle.mm_explore.proofs.ClosedSets as law

pub returns : goal.returns
returns c = law.closed_sets_are_led_on
