use Rattle.std.proofs.Common.{[], sym, ap}
use Rattle.mm_keep.{specs.{Claims.Tables, Rows.leak_of}, proofs.Reading.reads}
use Rattle.mm_keep.proofs.tables.Tables.leak.Goals as goal

pub returns : goal.returns
returns c =
    let rows = c.as_slice.result.now in
    reads leak_of c.self.inside.leaks.keys rows c.args.self.now.leaks c.as_slice.ensures.keys (ap (λ (t : Tables). t.leaks) c.self.view_is) c.args.at c.requires (0, 0, 0, []) _
    (sym c.leak.ensures)
