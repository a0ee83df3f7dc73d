use Rattle.std.proofs.Common.{◌≡◌, length, List, replicate, None, sym, ap, ◌∙◌, subst, rules}
use Rattle.mm_why.specs.{declared.line.Line.Line, Searches.{stage_of, Searching}, Graphs.{IsSearch, SlotsPlaced}}
use Rattle.mm_why.proofs.Searched.{nothing_found, search_done}
use Rattle.mm_why.proofs.search.search_group.Goals as goal

pub reach_slots-requires-clause-now : goal.reach_slots-requires-clause-now
reach_slots-requires-clause-now c =
    let size : c.len.result ≡ length c.args.graph.now.keys.items = search rules in
    let s = c.in_ok-search.search in
    let lines : s.lines.items ≡ c.args.lines.now.items = ap (λ v. v.items) (c.in_ok-search.ensures.lines ∙ c.replace-before.ensures.value) in
    subst (λ v. Searching c.args.image.now v c.args.group (stage_of s)) (sym c.deref.ensures.value)
    (subst (λ (v : List Line). Searching c.args.image.now c.args.graph.now.keys.items c.args.group (record { lines = v; places = s.places.items; queue = s.queue.items })) (sym lines)
    (nothing_found c.args.image.now c.args.graph.now.keys.items c.args.group c.args.lines.now.items s.places.items s.queue.items
    c.requires.trace c.requires.none (c.in_ok-search.ensures.places ∙ ap (λ v. replicate v None) size) c.in_ok-search.ensures.queue))

pub returns : goal.returns
returns c =
    let s = c.in_ok-search.search in
    let lines : s.lines.items ≡ c.args.lines.now.items = ap (λ v. v.items) (c.in_ok-search.ensures.lines ∙ c.replace-before.ensures.value) in
    let end = c.expand_all.new.self in
    subst (λ v. IsSearch c.args.image.now c.args.graph.now c.args.group v end.lines.items end.places.items) lines
    (search_done c.args.image.now c.args.graph.now c.requires.graph c.args.group (stage_of s) (stage_of c.reach_slots.new.self) (stage_of end)
    (subst (λ v. SlotsPlaced c.args.image.now v c.args.group (length c.args.image.now.slots) (stage_of s) (stage_of c.reach_slots.new.self)) c.deref.ensures.value c.in_ok-reach_slots.ensures)
    c.in_ok-expand_all.ensures.advances c.in_ok-expand_all.ensures.closed)
