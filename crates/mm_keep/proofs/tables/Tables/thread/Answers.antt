use Rattle.std.proofs.Common.{[], sym, ap}
use Rattle.mm_keep.{specs.{Claims.Tables, Rows.thread_of}, proofs.Reading.reads}
use Rattle.mm_keep.proofs.tables.Tables.thread.Goals as goal

pub returns : goal.returns
returns c =
    let rows = c.as_slice.result.now in
    reads thread_of c.self.inside.threads.keys rows c.args.self.now.threads c.as_slice.ensures.keys (ap (λ (t : Tables). t.threads) c.self.view_is) c.args.at c.requires ([], []) _
    (sym c.thread.ensures)
