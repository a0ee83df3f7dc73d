use Rattle.std.proofs.Common.{◌≡◌, ℕ, List, length, map, slice_get, Some, sym, ap, ◌∙◌, arith}
use Rattle.std.proofs.lemmas.{List.length-map, Option.slice_get-map}
use Rattle.std.specs.Prelude.{option_map}
use Rattle.mm_model.specs.{Fits.slots_of, Flags.flags, Slot.Slot}
use Rattle.mm_explore.specs.{Noting.standings_of, Outcomes.standing_number, declared.explored.Standing.Standing}
use Rattle.mm_explore.proofs.{HeldEnds.standings_long, Readings.{one_item, all_items, standing_read, standing_seen, shift_fits}}
use Rattle.mm_explore.proofs.ends.put_standings.Goals as goal

pub loop-at-preserved : goal.loop-at-preserved
loop-at-preserved c =
    let slots : List Slot = slots_of c.args.core.now in
    let standings : List Standing = standings_of (flags (length slots) c.args.busy) slots in
    let read = standing_read slots c.args.busy c.loop-at.at c.nth-slot.result.now c.nth-slot.ensures in
    let stands = standing_seen _ c.slot.inside.state c.nth-slot.result.now.state (ap (λ (s : Slot). s.state) c.slot.view_is) c.standing.result c.standing.ensures in
    let there : slice_get (map standing_number standings) c.loop-at.at ≡ Some c.standing_number.result =
    slice_get-map standing_number standings c.loop-at.at ∙ ap (option_map standing_number) read ∙ ap (λ (n : ℕ). Some n) (sym (c.standing_number.ensures ∙ ap standing_number stands)) in
    one_item c.args.key.now.items c.loop-at.key.items c.push.new.self.items (map standing_number standings) c.loop-at.at c.standing_number.result c.loop-at.invariant there c.in_ok-push.ensures.items

pub returns : goal.returns
returns c =
    let slots : List Slot = slots_of c.args.core.now in
    let standings : List Standing = standings_of (flags (length slots) c.args.busy) slots in
    let count = c.count-at-end.ensures in
    let end = c.loop-at-test.false in
    let long = length-map standings standing_number in
    let same = standings_long c.args.busy slots in
    all_items c.args.key.now.items c.loop-at.key.items (map standing_number standings) c.loop-at.at c.loop-at.invariant (omega (arith, count, end, long, same))

pub overflow_shr-busy : goal.overflow_shr-busy
overflow_shr-busy c =
    let lt = c.loop-at-test.true in
    let end = c.count-at-end.ensures in
    shift_fits c.args.core.now c.known.ensures c.loop-at.at (omega (arith, lt, end))
