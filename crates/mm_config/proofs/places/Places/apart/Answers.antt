use Rattle.std.proofs.Common.{subst}
use Rattle.mm_config.{specs.Places.HaveOnePlace, proofs.Placing.one_place}
use Rattle.mm_config.proofs.places.Places.apart.Goals as goal

pub returns : goal.returns
returns c = subst HaveOnePlace c.self.view_is (one_place c.self.inside.numbers.keys c.len-count.ensures.unique)
