use Rattle.std.proofs.Common.{◌≡◌, sym, ap, ◌∙◌, subst}
use Rattle.mm_why.specs.Searches.{stage_of, Searching, Advances}
use Rattle.mm_why.proofs.search.Search.reach_own_slot.Goals as goal

pub returns-clause-placed : goal.returns-clause-placed
returns-clause-placed c = λ i h now.
    let e : c.args.slot.now.group ≡ c.args.group = ap (λ v. v.group) (sym c.slot.view_is) ∙ c.if-slot-group.false in
    let r = c.in_ok-reach_slot.ensures.placed i h (subst (λ v. Searching i c.args.keys.now v (stage_of c.args.self.now)) (sym e) now) in
    (subst (λ v. Advances i c.args.keys.now v (stage_of c.args.self.now) (stage_of c.reach_slot.new.self)) e r.0, λ _. r.1)
