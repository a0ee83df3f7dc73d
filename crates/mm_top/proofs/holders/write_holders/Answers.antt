use Rattle.std.proofs.Common.{refl}
use Rattle.mm_top.proofs.Reported.{ends_written}
use Rattle.mm_top.proofs.holders.write_holders.Goals as goal

pub returns : goal.returns
returns g c = ends_written _ _ _ _ refl _ _ c.ended.ensures c.holders.ensures
