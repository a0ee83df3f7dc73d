use Rattle.std.proofs.Common.{[], ◌∷◌, map}
use Rattle.mm_keep.specs.Claims.{Facts}
use Rattle.mm_kernel.specs.Facts.Fact.{HasEvent}
use Rattle.mm_keep.specs.Rows.{slot_and_event}
use Rattle.mm_keep.proofs.{Claims.adds_from, Adding.adds_event, Same.{inserted, eq_event, same_event}}
use Rattle.mm_keep.proofs.tables.Tables.add_event.Goals as goal

pub returns : goal.returns
returns c = λ i kept.
    let keys = c.self.inside.events.keys in
    let now = c.insert.new.self.keys in
    let put = inserted slot_and_event eq_event same_event keys now (c.args.slot, c.form_numbers.result, c.form_numbers-2.result, c.form_numbers-3.result)
    (c.args.slot, c.args.event.now) c.in_ok-insert.ensures.keys
    (λ j. (c.args.slot, record { ip = c.form_numbers.ensures.again j; address = c.form_numbers-2.ensures.again j; value = c.form_numbers-3.ensures.again j })) in
    adds_from i kept (Facts (HasEvent c.args.slot c.args.event.now ∷ [])) _ c.args.self.now _ c.self.view_is
    (adds_event i kept _ c.args.slot c.args.event.now (map slot_and_event now) put)
