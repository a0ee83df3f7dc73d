use Rattle.std.proofs.Common.{◌≡◌, ◌-◌, ◌∙◌, ℕ, List, suc, sym, ap, subst, arith, Some}
use Rattle.std.proofs.lemmas.Option.{slice_get_within, get_or_from_slice_get}
use Rattle.mm_pairs.specs.Found.{AreKeysFound, number_at}
use Rattle.mm_pairs.proofs.keys.Keys.find.Goals as goal

pub get-second-requires : goal.get-second-requires
get-second-requires c =
    let at = c.get-earliest.result - 1 in
    let some = c.if-earliest-eq0.false in
    let is : number_at c.self.inside.earliest c.args.pair.0 ≡ suc at = sym c.get-earliest.ensures ∙ omega (arith, some) in
    let found = subst (λ (l : List (ℕ × ℕ)). AreKeysFound l c.self.inside.earliest c.self.inside.later) c.self.view_is c.self.invariant in
    let first = found.earliest c.args.pair.0 at is in
    slice_get_within c.args.self.now at first.0 first.1

pub returns-then-second-pair-clause-found : goal.returns-then-second-pair-clause-found
returns-then-second-pair-clause-found c =
    let at = c.get-earliest.result - 1 in
    let some = c.if-earliest-eq0.false in
    let is : number_at c.self.inside.earliest c.args.pair.0 ≡ suc at = sym c.get-earliest.ensures ∙ omega (arith, some) in
    let found = subst (λ (l : List (ℕ × ℕ)). AreKeysFound l c.self.inside.earliest c.self.inside.later) c.self.view_is c.self.invariant in
    let first = found.earliest c.args.pair.0 at is in
    let read = c.get-second.ensures ∙ get_or_from_slice_get c.args.self.now at first.0 (0, 0) first.1 in
    let name : first.0.0 ≡ c.args.pair.0 = first.2 in
    let second : first.0.1 ≡ c.args.pair.1 = ap (λ (p : ℕ × ℕ). p.1) (sym read) ∙ c.if-second-pair.true in
    let same : first.0 ≡ c.args.pair = λ j. (name j, second j) in
    first.1 ∙ ap Some same
