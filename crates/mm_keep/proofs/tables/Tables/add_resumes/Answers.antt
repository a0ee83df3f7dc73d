use Rattle.std.proofs.Common.{map}
use Rattle.mm_keep.specs.Claims.{Only, Claim.SomeResumes}
use Rattle.mm_keep.specs.Rows.{slot_and_how}
use Rattle.mm_keep.proofs.{Claims.adds_from, Adding.adds_resumes, Same.{inserted, eq_two, same_two}}
use Rattle.mm_keep.proofs.tables.Tables.add_resumes.Goals as goal

pub returns : goal.returns
returns c = λ i kept.
    let keys = c.self.inside.resumes.keys in
    let now = c.insert.new.self.keys in
    let put = inserted slot_and_how eq_two same_two keys now (c.args.slot, c.how_number.result)
    (c.args.slot, c.args.how) c.in_ok-insert.ensures.keys
    (λ j. (c.args.slot, c.how_number.ensures j)) in
    adds_from i kept (Only (SomeResumes c.args.slot c.args.how)) _ c.args.self.now _ c.self.view_is
    (adds_resumes i kept _ c.args.slot c.args.how (map slot_and_how now) put)
