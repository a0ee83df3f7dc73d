use Rattle.std.proofs.Common.{List, ◌∙◌, map, length, refl, sym}
use Rattle.mm_model.specs.{Fits.slots_of, Flags.flags, Slot.Slot, State.output_of}
use Rattle.mm_explore.specs.Noting.{standings_of, outcome_held}
use Rattle.mm_explore.proofs.{HeldEnds.standings_long, Tallies.form_joined}
use Rattle.mm_explore.proofs.ends.outcome_key.Goals as goal

pub returns : goal.returns
returns c =
    let core = c.args.core.now in
    let slots : List Slot = slots_of core in
    let busy = c.args.end.busy in
    form_joined (outcome_held c.args.end core c.args.groups.now)
    c.new-key.result.items c.push.new.self.items c.push-2.new.self.items c.put_standings.new.key.items c.put_outputs.new.key.items
    c.ending_number.result c.count.result (standings_of (flags (length slots) busy) slots) (map (output_of core) c.args.groups.now)
    c.new-key.ensures.items c.in_ok-push.ensures.items c.in_ok-push-2.ensures.items c.in_ok-put_standings.ensures c.in_ok-put_outputs.ensures
    c.ending_number.ensures (c.count.ensures ∙ sym (standings_long busy slots)) refl refl
