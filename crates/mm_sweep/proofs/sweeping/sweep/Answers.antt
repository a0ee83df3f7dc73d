use Rattle.mm_sweep.proofs.SweptGrants.{revokes_swept}
use Rattle.mm_sweep.proofs.sweeping.sweep.Goals as goal

pub returns-in-None-clause-revokes : goal.returns-in-None-clause-revokes
returns-in-None-clause-revokes c =
    revokes_swept c.sweeping_revokes.ensures c.new-range.ensures c.args.img.now c.sweep_unheld.result c.sweep_unheld.ensures.can_sweep c.sweep_unheld.ensures.swept
