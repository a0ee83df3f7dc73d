use Rattle.std.proofs.Common.{◌-◌, sym, subst}
use Rattle.std.specs.Vec.{vec_len}
use Rattle.mm_explore.proofs.WordKeys.{AreAmong, among_filled}
use Rattle.mm_explore.proofs.reached.WordSet.make_places.Goals as goal

pub invariant_of-self : goal.invariant_of-self
invariant_of-self c =
    let keys = c.self.inside.words.keys in
    let places = c.self.inside.recent.items in
    subst (AreAmong keys) (sym c.in_ok-resize.ensures.items) (among_filled keys 1024 (1024 - vec_len c.self.inside.recent) places c.self.invariant)
