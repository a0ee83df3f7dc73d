use Rattle.std.proofs.{Common.{[], map, zip, length, ◌++◌, ◌∙◌, ap, subst}, lemmas.Option.slice_get_within}
use Rattle.mm_model.specs.{Fits.slots_of, Flags.flags, State.output_of}
use Rattle.mm_explore.specs.{FoundLists.IsAt, Finds.as_output, Noting.standings_of}
use Rattle.mm_explore.proofs.{HeldEnds.found_is, AllFound.at_index, Steps.{can_put, is_put, is_kept}}
use Rattle.mm_explore.proofs.outcomes.outcome.Goals as goal

pub put-requires : goal.put-requires
put-requires c =
    let k = c.requires.end.3 in
    can_put c.args.img.now c.args.found.now c.args.configs.now c.requires.kept c.args.tally.first.at
    (slice_get_within c.args.found.now c.args.tally.first.at c.requires.end.1.schedule k.first)

pub schedule-requires : goal.schedule-requires
schedule-requires c = let k = c.requires.end.3 in slice_get_within c.args.found.now c.args.tally.first.at c.requires.end.1.schedule k.first

pub returns-clause-kept : goal.returns-clause-kept
returns-clause-kept c =
    let i = c.args.img.now in
    let list = c.args.found.now in
    let at = c.args.tally.first.at in
    let t = c.requires.end.1.schedule in
    let here = c.requires.end.3.first in
    let put = is_put i list c.put.new.self at (slice_get_within list at t here) (c.in_ok-put.ensures i _ c.requires.kept.stands) in
    is_kept i list t c.put.new.self (subst (λ u. IsAt i list u c.put.new.self) (at_index list at t [] here) put)

pub returns-clause-outcome : goal.returns-clause-outcome
returns-clause-outcome c = λ ends e key k.
    let i = c.args.img.now in
    let list = c.args.found.now in
    let at = c.args.tally.first.at in
    let put = is_put i list c.put.new.self at (slice_get_within list at e.schedule k.first) (c.in_ok-put.ensures i _ c.requires.kept.stands) in
    let there : IsAt i list e.schedule c.put.new.self = subst (λ u. IsAt i list u c.put.new.self) (at_index list at e.schedule [] k.first) put in
    let core = c.core-core.result.now in
    let groups = c.args.groups.now in
    found_is i c.requires.image e c.args.tally.first core groups (c.core-core.ensures i _ there) c.requires.groups k.held c.args.tally.count _ k.count
    c.put_slots.new.out.items
    (c.in_ok-put_slots.ensures ∙ ap (λ l. l ++ zip (map (λ s. s.number) (slots_of core)) (standings_of (flags (length (slots_of core)) c.args.tally.first.busy) (slots_of core))) c.new-slots.ensures.items)
    c.put_outputs.new.out.items
    (c.in_ok-put_outputs.ensures ∙ ap (λ l. l ++ map as_output (zip groups (map (output_of core) groups))) c.new-outputs.ensures.items)
    c.in_ok-by.by.items (c.in_ok-by.ensures ∙ at_index list at e.schedule [] k.first)
