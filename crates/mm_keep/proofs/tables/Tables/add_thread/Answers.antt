use Rattle.std.proofs.Common.{[], ◌∷◌, map}
use Rattle.mm_keep.specs.Claims.{Facts}
use Rattle.mm_kernel.specs.Facts.Fact.{HasThread}
use Rattle.mm_keep.specs.Rows.{thread_of}
use Rattle.mm_keep.proofs.{Claims.adds_from, Adding.adds_thread, Keyed.{keyed_more, is_key}, Same.{inserted, eq_row, same_row}}
use Rattle.mm_keep.proofs.tables.Tables.add_thread.Goals as goal

pub returns : goal.returns
returns c = λ i kept.
    let keys = c.self.inside.threads.keys in
    let now = c.insert.new.self.keys in
    let put = inserted thread_of eq_row same_row keys now c.thread_numbers.result
    c.args.t.now c.in_ok-insert.ensures.keys
    c.thread_numbers.ensures.again in
    adds_from i kept (Facts (HasThread c.args.t.now ∷ [])) _ c.args.self.now _ c.self.view_is
    (adds_thread i kept _ c.args.t.now (map thread_of now) put)

pub invariant_of-self-2 : goal.invariant_of-self-2
invariant_of-self-2 c =
    let key = is_key c.args.t.now c.thread_numbers.result c.thread_numbers.ensures.is c.thread_numbers.ensures.again in
    keyed_more c.self.inside.threads.keys c.insert.new.self.keys c.thread_numbers.result c.in_ok-insert.ensures.keys key c.self.invariant
