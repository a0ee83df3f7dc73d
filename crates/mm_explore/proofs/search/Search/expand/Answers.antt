use Rattle.std.proofs.Common.{◌+◌, sym, subst}
use Rattle.mm_explore.specs.{declared.search.Search.Search, Searching.IsBefore}
use Rattle.mm_explore.proofs.{Notes.more_ok, Steps.all_made}
use Rattle.mm_explore.proofs.search.Search.expand.Goals as goal

pub returns-clause-before : goal.returns-clause-before
returns-clause-before c =
    let noted = c.in_ok-note_if_final.ensures in
    more_ok c.keep_children.result
    (λ graph. subst (λ (x : Search). IsBefore c.args.img.now x (c.args.at + 1)) (sym c.keep_children.ensures.rest)
    (all_made c.args.img.now c.make_all.new.self c.args.at c.in_ok-stay.ensures.within c.note_if_final.new.self c.keep_children.new.self.graph noted.noted noted.rest graph))
    c.keep_children.ensures.graph
