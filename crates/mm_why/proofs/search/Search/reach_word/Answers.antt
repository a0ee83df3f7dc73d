use Rattle.std.proofs.Common.{◌≡◌, Some, sym, ap, ◌∙◌}
use Rattle.mm_graph.specs.Key.{word_key, standing_key}
use Rattle.mm_why.proofs.Searching.{word_placed}
use Rattle.mm_why.proofs.search.Search.reach_word.Goals as goal

pub returns-in_ok-reach-in-Some-find-clause-placed : goal.returns-in_ok-reach-in-Some-find-clause-placed
returns-in_ok-reach-in-Some-find-clause-placed c = λ i now held.
    let f = c.in-Some-find.ensures in
    let stands : standing_key c.in-Ptr.pointer ≡ Some c.in-Some.key = sym c.in-Some.ensures.value in
    let is : word_key c.args.word ≡ Some c.in-Some.key = ap word_key c.in-Ptr.is ∙ stands in
    let h = held c.args.self.now.lines.items _ c.in-Ptr.pointer c.in-Ptr.is in
    let r = c.in_ok-reach-in-Some-find.ensures.reached i c.args.keys.now c.requires.rising now
    (record { small = f.0; stands = stands ∙ ap Some (sym f.1); fits = h.1 }) h.0 in
    (r.0, word_placed c.args.keys.now c.args.word c.in-Some.key c.in-Some-find.node _ c.requires.rising is f.0 f.1 r.1)
