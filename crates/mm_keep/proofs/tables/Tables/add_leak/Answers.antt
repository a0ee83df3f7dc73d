use Rattle.std.proofs.Common.{[], ◌∷◌, map}
use Rattle.mm_keep.specs.Claims.{Facts}
use Rattle.mm_kernel.specs.Facts.Fact.{HasLeak}
use Rattle.mm_keep.specs.Rows.{leak_of}
use Rattle.mm_keep.proofs.{Claims.adds_from, Adding.adds_leak, Same.{inserted, eq_leak, same_leak}}
use Rattle.mm_keep.proofs.tables.Tables.add_leak.Goals as goal

pub returns : goal.returns
returns c = λ i kept.
    let keys = c.self.inside.leaks.keys in
    let now = c.insert.new.self.keys in
    let put = inserted leak_of eq_leak same_leak keys now c.leak_numbers.result
    c.args.leak.now c.in_ok-insert.ensures.keys
    c.leak_numbers.ensures in
    adds_from i kept (Facts (HasLeak c.args.leak.now ∷ [])) _ c.args.self.now _ c.self.view_is
    (adds_leak i kept _ c.args.leak.now (map leak_of now) put)
