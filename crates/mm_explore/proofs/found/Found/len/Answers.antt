use Rattle.std.proofs.Common.{[], ◌∷◌, length, ap, arith}
use Rattle.mm_explore.proofs.Spelled.{length_spelled}
use Rattle.mm_explore.proofs.found.Found.len.Goals as goal

pub returns : goal.returns
returns c =
    let long = length_spelled ([] ∷ []) c.self.inside.origins.items in
    let same = ap length c.self.view_is in
    let count = c.len.ensures in
    omega (arith, long, same, count)
