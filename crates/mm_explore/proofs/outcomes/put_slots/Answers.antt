use Rattle.std.proofs.Common.{◌++◌, ◌∷◌, [], ℕ, List, length, map, zip, Some, sym, ap, ◌∙◌, arith}
use Rattle.std.proofs.lemmas.{List.length-map, Option.slice_get-map, Slice.Zip.length-zip}
use Rattle.std.specs.Prelude.{option_map}
use Rattle.indexmap.proofs.ReorderLemmas.{slice_get-zip_some}
use Rattle.mm_model.specs.{Fits.slots_of, Flags.flags, Slot.Slot}
use Rattle.mm_explore.specs.{Noting.standings_of, declared.explored.Standing.Standing}
use Rattle.mm_explore.proofs.{Readings.{one_item, all_items, standing_read, standing_seen, shift_fits}}
use Rattle.mm_explore.proofs.outcomes.put_slots.Goals as goal

pub loop-at-preserved : goal.loop-at-preserved
loop-at-preserved c =
    let slots : List Slot = slots_of c.args.core.now in
    let numbers : List ℕ = map (λ (s : Slot). s.number) slots in
    let standings : List Standing = standings_of (flags (length slots) c.args.busy) slots in
    let s = c.nth-slot.result.now in
    let read = standing_read slots c.args.busy c.loop-at.at s c.nth-slot.ensures ∙ ap (λ (x : Standing). Some x) (sym (standing_seen _ c.slot.inside.state s.state (ap (λ (x : Slot). x.state) c.slot.view_is) c.standing.result c.standing.ensures)) in
    let number = slice_get-map (λ (s : Slot). s.number) slots c.loop-at.at ∙ ap (option_map (λ (s : Slot). s.number)) c.nth-slot.ensures in
    one_item c.args.out.now.items c.loop-at.out.items c.push.new.self.items (zip numbers standings) c.loop-at.at (s.number, c.standing.result) c.loop-at.invariant
    (slice_get-zip_some numbers standings c.loop-at.at s.number c.standing.result number read)
    (c.in_ok-push.ensures.items ∙ ap (λ (x : Slot). c.loop-at.out.items ++ (x.number, c.standing.result) ∷ []) c.slot.view_is)

pub returns : goal.returns
returns c =
    let slots : List Slot = slots_of c.args.core.now in
    let numbers : List ℕ = map (λ (s : Slot). s.number) slots in
    let standings : List Standing = standings_of (flags (length slots) c.args.busy) slots in
    let count = c.count-at-end.ensures in
    let end = c.loop-at-test.false in
    let long = length-zip numbers standings in
    let many = length-map slots (λ (s : Slot). s.number) in
    all_items c.args.out.now.items c.loop-at.out.items (zip numbers standings) c.loop-at.at c.loop-at.invariant (omega (arith, count, end, long, many))

pub overflow_shr-busy : goal.overflow_shr-busy
overflow_shr-busy c =
    let lt = c.loop-at-test.true in
    let end = c.count-at-end.ensures in
    shift_fits c.args.core.now c.known.ensures c.loop-at.at (omega (arith, lt, end))
