use Rattle.std.proofs.Common.{[], ◌∷◌, map}
use Rattle.mm_keep.specs.Claims.{Facts}
use Rattle.mm_kernel.specs.Facts.Fact.{HasFaulted}
use Rattle.mm_keep.specs.Rows.{slot_and_thread}
use Rattle.mm_keep.proofs.{Claims.adds_from, Adding.adds_faulted, Same.{inserted, eq_faulted, same_faulted}}
use Rattle.mm_keep.proofs.tables.Tables.add_faulted.Goals as goal

pub returns : goal.returns
returns c = λ i kept.
    let keys = c.self.inside.faulted.keys in
    let now = c.insert.new.self.keys in
    let put = inserted slot_and_thread eq_faulted same_faulted keys now c.faulted_numbers.result
    (c.args.slot, c.args.t.now) c.in_ok-insert.ensures.keys
    c.faulted_numbers.ensures in
    adds_from i kept (Facts (HasFaulted c.args.slot c.args.t.now ∷ [])) _ c.args.self.now _ c.self.view_is
    (adds_faulted i kept _ c.args.slot c.args.t.now (map slot_and_thread now) put)
