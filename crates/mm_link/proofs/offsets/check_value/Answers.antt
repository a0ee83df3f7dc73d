use Rattle.std.proofs.Common.{length}
use Rattle.mm_link.proofs.Targets.{in_range}
use Rattle.mm_link.proofs.offsets.check_value.Goals as goal

pub check_target-requires : goal.check_target-requires
check_target-requires c =
    let o = c.args.object.now in
    in_range o.segments (length o.externals) c.in-Ptr.target (rw c.in-Ptr.is at c.requires)
