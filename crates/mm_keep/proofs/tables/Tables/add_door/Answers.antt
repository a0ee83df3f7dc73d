use Rattle.std.proofs.Common.{[], ◌∷◌, map, nat_eq}
use Rattle.mm_keep.specs.Claims.{Facts}
use Rattle.mm_kernel.specs.Facts.Fact.{HasDoor}
use Rattle.mm_keep.specs.Rows.{pointer_in}
use Rattle.mm_keep.proofs.{Claims.adds_from, Adding.adds_door, Same.{inserted, same_number}}
use Rattle.mm_keep.proofs.tables.Tables.add_door.Goals as goal

pub returns : goal.returns
returns c = λ i kept.
    let keys = c.self.inside.doors.keys in
    let now = c.insert.new.self.keys in
    let put = inserted pointer_in nat_eq same_number keys now c.bits.result
    c.args.door c.in_ok-insert.ensures.keys
    c.bits.ensures.again in
    adds_from i kept (Facts (HasDoor c.args.door ∷ [])) _ c.args.self.now _ c.self.view_is
    (adds_door i kept _ c.args.door (map pointer_in now) put)
