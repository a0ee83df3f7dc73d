use Rattle.std.proofs.Common.{[], sym, ap, slice_index_or}
use Rattle.mm_keep.{specs.{Claims.Tables, Rows.slot_and_event}, proofs.Reading.reads}
use Rattle.mm_keep.proofs.tables.Tables.event_at.Goals as goal

pub returns : goal.returns
returns c =
    let rows = c.as_slice.result.now in
    let row = slice_index_or rows c.args.at (0, [], [], []) in
    reads slot_and_event c.self.inside.events.keys rows c.args.self.now.events c.as_slice.ensures.keys (ap (λ (t : Tables). t.events) c.self.view_is) c.args.at c.requires (0, [], [], []) _
    (λ j. (row.0, record { ip = sym c.form.ensures j; address = sym c.form-2.ensures j; value = sym c.form-3.ensures j }))
