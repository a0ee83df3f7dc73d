use Rattle.std.proofs.Common.{◌++◌, refl, ap, ◌∙◌}
use Rattle.mm_model.specs.Fits.{slots_of}
use Rattle.mm_explore.specs.{MoveLists.moves_in, Searching.schedule_at}
use Rattle.mm_explore.proofs.{MoveForms.moves_read, Steps.{can_put, is_put, is_kept, none_made}}
use Rattle.mm_explore.proofs.search.Search.list_moves.Goals as goal

pub put-requires : goal.put-requires
put-requires c = can_put c.args.img.now c.args.self.now.found c.args.self.now.configs c.requires.before.kept c.args.at c.requires.inside

pub returns-clause-within : goal.returns-clause-within
returns-clause-within c =
    let i = c.args.img.now in
    let s = c.args.self.now in
    let list = s.found in
    let there = is_put i list c.put.new.self c.args.at c.requires.inside (c.in_ok-put.ensures i _ c.requires.before.kept.stands) in
    let read = moves_read i (schedule_at s c.args.at) c.core.result.now (c.core.ensures i _ there) in
    none_made i s _ c.args.at c.requires.before c.requires.inside (is_kept i list (schedule_at s c.args.at) c.put.new.self there) refl
    (c.in_ok-put_moves.ensures ∙ ap (λ l. l ++ moves_in c.core.result.now.split (slots_of c.core.result.now)) c.clear.ensures.items ∙ read)
    c.clear-2.ensures.items
