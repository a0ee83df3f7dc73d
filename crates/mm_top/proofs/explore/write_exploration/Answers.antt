use Rattle.std.proofs.Common.{refl}
use Rattle.mm_top.proofs.Reported.{ends_written}
use Rattle.mm_top.proofs.explore.write_exploration.Goals as goal

pub returns : goal.returns
returns g c = ends_written _ _ _ _ (record { found = _; finds = c.in_ok-explored.ensures; written = refl }) _ _ c.ended.ensures c.write_explored.ensures
