use Rattle.std.proofs.Common.{sym, subst}
use Rattle.mm_hold.specs.Holdings.{AreHoldings}
use Rattle.mm_hold.proofs.Judging.{judged}
use Rattle.mm_hold.proofs.holdings.Holdings.apart.Goals as goal

pub returns : goal.returns
returns c i kept are =
    let own = subst (AreHoldings i kept) (sym c.self.view_is) are in
    judged i kept c.self.inside.survey.served own.served c.args.group own.image c.self.inside.survey.least own.least c.apart.result c.apart.ensures.answer
