use Rattle.mm_why.proofs.Rounding.{own_start, own_more}
use Rattle.mm_why.proofs.rounds.own.Goals as goal

pub loop-g-init : goal.loop-g-init
loop-g-init c = own_start

pub loop-g-preserved : goal.loop-g-preserved
loop-g-preserved c = own_more c.loop-g.g c.loop-g.masks c.loop-g-test.true c.loop-g.invariant
