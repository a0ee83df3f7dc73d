use Rattle.std.proofs.Common.{sym, ap}
use Rattle.mm_keep.{specs.{Claims.Tables, Rows.pointer_in}, proofs.Reading.reads}
use Rattle.mm_keep.proofs.tables.Tables.door.Goals as goal

pub returns : goal.returns
returns c =
    let rows = c.as_slice.result.now in
    reads pointer_in c.self.inside.doors.keys rows c.args.self.now.doors c.as_slice.ensures.keys (ap (λ (t : Tables). t.doors) c.self.view_is) c.args.at c.requires 0 _
    (sym c.pointer.ensures)
