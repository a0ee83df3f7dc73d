use Rattle.std.proofs.Common.{◌≡◌, ℕ, List, [], length, take, drop, subst, arith}
use Rattle.std.specs.List.{flat_map}
use Rattle.mm_explore.specs.{Findings.{extensions, explored_turns}, Searching.HasCome}
use Rattle.mm_explore.proofs.Steps.{list_few, take_whole, drop_whole}
use Rattle.mm_explore.proofs.search.Search.run.Goals as goal

pub loop-at-smaller : goal.loop-at-smaller
loop-at-smaller c =
    let s = c.loop-at.self in
    let i = c.args.img.now in
    let few = list_few i s.all s.limit s.found (flat_map (extensions i) (take c.loop-at.at s.found)) (flat_map (extensions i) (drop c.loop-at.at s.found)) c.loop-at.invariant.before.goes in
    let test = c.loop-at-test.true in
    let len = c.len.ensures in
    let limit = c.in_ok-expand.ensures.limit in
    omega (arith, few, test, len, limit)

pub returns-clause-come : goal.returns-clause-come
unfolding explored_turns
returns-clause-come c =
    let i = c.args.img.now in
    let s = c.loop-at.self in
    let at = c.loop-at.at in
    let low = c.loop-at.invariant.low in
    let test = c.loop-at-test.false in
    let len = c.len.ensures in
    let end : length s.found ≡ at = omega (arith, low, test, len) in
    subst (λ (p : List (List ℕ)). HasCome i s (flat_map (extensions i) p) [] p) (take_whole s.found at end)
    (subst (λ (q : List (List ℕ)). HasCome i s (flat_map (extensions i) (take at s.found)) (flat_map (extensions i) q) (take at s.found)) (drop_whole s.found at end)
    c.loop-at.invariant.before)
