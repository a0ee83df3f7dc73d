use Rattle.std.proofs.Common.{subst}
use Rattle.mm_explore.specs.Finds.{Finds}
use Rattle.mm_explore.proofs.search.explore.Goals as goal

pub returns : goal.returns
returns c = subst (λ n. Finds c.args.img.now n c.in_ok-explored.field-0) c.in_ok-search.ensures.limit c.in_ok-explored.ensures
