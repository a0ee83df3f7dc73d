use Rattle.std.proofs.Common.{ℕ, false, get_or, sym, ap, ◌∙◌}
use Rattle.mm_debug.proofs.{Kept.{answered, break_searched}, Spots.none_at}
use Rattle.mm_debug.proofs.breakpoints.Breaks.contains.Goals as goal

pub returns : goal.returns
returns c =
    let found = c.binary_search.ensures in
    rw (← c.self.view_is) (c.is_ok.ensures.value ∙ answered c.binary_search.result (break_searched c.args.slot c.args.address _ _ _ c.deref.ensures.0 c.self.invariant.0 found.bound found.position))

pub returns-then-not-self-spot : goal.returns-then-not-self-spot
returns-then-not-self-spot c =
    let spots = c.self.inside.spots in
    let unset = ap (λ (k : ℕ). get_or spots k false) (sym c.spot.ensures.spot) ∙ c.if-not-self-spot.true in
    rw (← c.self.view_is) (sym (none_at spots c.args.slot c.args.address c.self.inside.kept.items c.self.invariant.1 unset))
