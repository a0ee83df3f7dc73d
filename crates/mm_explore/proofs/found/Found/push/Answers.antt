use Rattle.std.proofs.Common.{[], ◌∷◌, ◌++◌, List, ℕ, length, sym, ap, ◌∙◌, subst, arith}
use Rattle.mm_explore.specs.FoundLists.{spelled, led_by, AreEarlier}
use Rattle.mm_explore.proofs.Spelled.{length_spelled, spelled_push, earlier_push}
use Rattle.mm_explore.proofs.found.Found.push.Goals as goal

pub invariant_of-self : goal.invariant_of-self
invariant_of-self c = subst (AreEarlier 1) (sym c.in_err-push.ensures.items) c.self.invariant

pub invariant_of-self-2 : goal.invariant_of-self-2
invariant_of-self-2 c =
    let origins = c.self.inside.origins.items in
    let long = length_spelled ([] ∷ []) origins in
    let view = ap length c.self.view_is in
    let from = c.requires in
    subst (AreEarlier 1) (sym c.in_ok-push.ensures.items) (earlier_push 1 origins c.args.origin c.self.invariant (omega (arith, long, view, from)))

pub returns : goal.returns
returns c =
    let origins = c.self.inside.origins.items in
    ap (spelled ([] ∷ [])) c.in_ok-push.ensures.items ∙ spelled_push ([] ∷ []) origins c.args.origin
    ∙ ap (λ (l : List (List ℕ)). l ++ led_by l c.args.origin ∷ []) c.self.view_is
