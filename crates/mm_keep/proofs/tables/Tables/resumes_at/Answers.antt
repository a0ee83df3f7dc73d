use Rattle.std.proofs.Common.{sym, ap, slice_index_or}
use Rattle.mm_keep.{specs.{Claims.Tables, Rows.slot_and_how}, proofs.Reading.reads}
use Rattle.mm_keep.proofs.tables.Tables.resumes_at.Goals as goal

pub returns : goal.returns
returns c =
    let rows = c.as_slice.result.now in
    let row = slice_index_or rows c.args.at (0, 0) in
    reads slot_and_how c.self.inside.resumes.keys rows c.args.self.now.resumes c.as_slice.ensures.keys (ap (λ (t : Tables). t.resumes) c.self.view_is) c.args.at c.requires (0, 0) _
    (λ j. (row.0, sym c.how.ensures j))
