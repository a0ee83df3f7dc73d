use Rattle.std.proofs.Common.{false, refl}
use Rattle.mm_model.specs.{State.Core, Fits.IsCore}
use Rattle.mm_thread.proofs.{Fresh.fresh_core, RowIndex.{apart_in, few_rows, small_numbers}}
use Rattle.mm_thread.proofs.state.Core.new.Goals as goal

pub new-tables-requires-clause-apart : goal.new-tables-requires-clause-apart
new-tables-requires-clause-apart c =
    let t : Core = record { rows = c.in_ok-rows.rows.items; outputs = c.in_ok-outputs.outputs.items; version = 1; split = false } in
    let whole : IsCore t = fresh_core c.args.slots.now c.requires.rising c.requires.fresh _ _ t refl c.in_ok-rows.ensures c.in_ok-outputs.ensures in
    apart_in t whole

pub new-tables-requires-clause-few : goal.new-tables-requires-clause-few
new-tables-requires-clause-few c =
    let t : Core = record { rows = c.in_ok-rows.rows.items; outputs = c.in_ok-outputs.outputs.items; version = 1; split = false } in
    let whole : IsCore t = fresh_core c.args.slots.now c.requires.rising c.requires.fresh _ _ t refl c.in_ok-rows.ensures c.in_ok-outputs.ensures in
    few_rows t whole.formed.rising (small_numbers t whole)

pub invariant_of-result : goal.invariant_of-result
invariant_of-result c = fresh_core c.args.slots.now c.requires.rising c.requires.fresh _ _ c.new-tables.result c.new-tables.ensures c.in_ok-rows.ensures c.in_ok-outputs.ensures
