use Rattle.std.proofs.Common.{rules, [], subst}
use Rattle.mm_confine_text.specs.Found.{IsReach}
use Rattle.mm_confine_text.proofs.Texts.{none_reached}
use Rattle.mm_confine_text.proofs.text.put_reach_if.Goals as goal

pub returns-in-Some : goal.returns-in-Some
returns-in-Some g c =
    let (groups, wrote, are) = c.put_reach.ensures in
    (groups, wrote, λ i kept limit is reach. are i kept limit is (subst (IsReach i kept c.args.answer.now) c.in-Some.is reach))

pub returns-in-None : goal.returns-in-None
returns-in-None g c = ([], search rules, λ i kept limit is reach. none_reached i kept c.args.answer.now (subst (IsReach i kept c.args.answer.now) c.in-None.is reach))
