use Rattle.std.proofs.Common.{◌≡◌, ◌-◌, ◌+◌, ◌<◌, ◌≤◌, inl, inr, length, drop, slice_index_or, subst, ◌∷◌, ap, ◌∙◌, arith}
use Rattle.std.{proofs.lemmas.List.drop_more, specs.Prelude.Contains}
use Rattle.mm_span.proofs.Members.{in_cases}
use Rattle.mm_endless.proofs.Marks.{read_in, read_as}
use Rattle.mm_endless.proofs.walk.Walk.begin_of.Goals as goal

pub index-requires-in-loop-from : goal.index-requires-in-loop-from
index-requires-in-loop-from c =
    let from = c.loop-from.from in
    let within = c.loop-from.invariant.within in
    let some = c.loop-from-test.true in
    let inside = c.requires c.index.result.now (read_in c.args.self.now.finished.items (from - 1) c.index.result.now (omega (arith, within, some)) c.index.ensures) in
    let long = c.args.self.now.numbers.ok in
    omega (arith, inside, long)

pub loop-from-preserved : goal.loop-from-preserved
loop-from-preserved c =
    let xs = c.args.self.now.finished.items in
    let numbers = c.args.self.now.numbers.items in
    let from = c.loop-from.from in
    let within = c.loop-from.invariant.within in
    let some = c.loop-from-test.true in
    let lt : from - 1 < length xs = omega (arith, within, some) in
    let x = c.index.result.now in
    let node = read_as xs (from - 1) x 0 lt c.index.ensures in
    let all : drop (from - 1) xs ≡ x ∷ drop from xs = drop_more xs (from - 1) 0 lt ∙ ap (λ y. y ∷ drop (from - 1 + 1) xs) node ∙ ap (λ n. x ∷ drop n xs) (let e : from - 1 + 1 ≡ from = omega (arith, some) in e) in
    let low = c.requires x (read_in xs (from - 1) x lt c.index.ensures) in
    let number = read_as numbers x c.index-in-loop-from.result.now 0 low c.index-in-loop-from.ensures in
    let ge = c.if-index-bound.true in
    record {
      within = omega (arith, within);
      inside = λ v there. elim (in_cases x (drop from xs) v (subst (λ l. Contains l v) all there)) [
        | inl e ↦ subst (λ n. c.args.bound ≤ slice_index_or numbers n 0) e (omega (arith, number, ge))
        | inr later ↦ c.loop-from.invariant.inside v later
      ];
    }
