use Rattle.mm_link.proofs.Places.{named_fits}
use Rattle.mm_link.proofs.sites.Sites.named.Goals as goal

pub returns-clause-fits : goal.returns-clause-fits
returns-clause-fits c = named_fits c.args.self.now c.args.name.now c.get.ensures.fit
