use Rattle.std.proofs.Common.{map}
use Rattle.mm_keep.specs.Claims.{Only, Claim.SomeWrites}
use Rattle.mm_keep.specs.Rows.{slot_and_write}
use Rattle.mm_keep.proofs.{Claims.adds_from, Adding.adds_writes, Same.{inserted, eq_write, same_write}}
use Rattle.mm_keep.proofs.tables.Tables.add_writes.Goals as goal

pub returns : goal.returns
returns c = λ i kept.
    let keys = c.self.inside.writes.keys in
    let now = c.insert.new.self.keys in
    let put = inserted slot_and_write eq_write same_write keys now (c.args.slot, c.args.reg, c.form_numbers.result)
    (c.args.slot, c.args.reg, c.args.form.now) c.in_ok-insert.ensures.keys
    (λ j. (c.args.slot, c.args.reg, c.form_numbers.ensures.again j)) in
    adds_from i kept (Only (SomeWrites c.args.slot c.args.reg c.args.form.now)) _ c.args.self.now _ c.self.view_is
    (adds_writes i kept _ c.args.slot c.args.reg c.args.form.now (map slot_and_write now) put)
