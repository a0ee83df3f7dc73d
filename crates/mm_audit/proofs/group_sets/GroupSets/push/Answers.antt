use Rattle.std.proofs.Common.{rules, arith}
use Rattle.mm_audit.proofs.SharedSets.{new_set}
use Rattle.mm_audit.proofs.group_sets.GroupSets.push.Goals as goal

pub returns : goal.returns
returns c =
    let m = new_set c.self.inside.sets.items c.args.set c.self.inside.places.items c.len-place.result (omega arith) c.self.invariant.0 in
    search rules
