use Rattle.std.proofs.Common.{◌≡◌, [], map, sym, subst}
use Rattle.std.{proofs.lemmas.Map.Iter.rest_all, specs.{Prelude.{Contains, ◌↔◌}, List.filter, Map.Iter.deref}}
use Rattle.mm_keep_text.proofs.Ranges.{of_origin, part_in, parts_left, parts_are}
use Rattle.mm_keep_text.proofs.parts.parts_of.Goals as goal

pub returns : goal.returns
returns c =
    let o = c.args.origin in
    let keys = c.args.uses.now.keys in
    let none : c.loop-used.used-iterator ≡ [] = rest_all deref c.loop-used.used-iterator c.next.new.self c.next.result c.in-None.is c.next.ensures.steps in
    let is = parts_left c.loop-used.parts.items (map part_in (filter (of_origin o) keys)) c.loop-used.used-iterator none c.loop-used.invariant in
    λ part. subst (λ l. Contains l part ↔ Contains keys (o, part)) (sym is) (parts_are o keys part)
