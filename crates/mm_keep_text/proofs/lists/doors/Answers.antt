use Rattle.std.proofs.Common.{◌≤◌, length, take, ap, sym, ◌∙◌, subst, arith}
use Rattle.std.proofs.lemmas.{List.take_all, Iterator.items_from_collect}
use Rattle.std.proofs.lemmas.Iterator.Consumers.{YieldsList-from_copied, YieldsList-at, YieldsList-from_rest}
use Rattle.std.specs.{Prelude.Contains, Map.values_of}
use Rattle.mm_keep_text.specs.Keys.{pointer_key, pointer_from}
use Rattle.mm_keep_text.proofs.Listing.{Lists, listed_got, listed_whole, listed_ascend}
use Rattle.mm_keep_text.proofs.lists.doors.Goals as goal

pub loop-k-preserved : goal.loop-k-preserved
loop-k-preserved c =
    listed_got pointer_key pointer_from c.args.tables.now.doors c.loop-k.k c.door-door.result (ap pointer_from (sym c.pointer_key.ensures.is) ∙ c.pointer_key.ensures.again) c.door-door.ensures
    c.loop-k.listed.entries c.insert.new.self.entries c.pointer_key.result c.pointer_key.ensures.is c.in_ok-insert.ensures.entries c.loop-k.invariant

pub returns-clause-ascend : goal.returns-clause-ascend
returns-clause-ascend c =
    let some = items_from_collect c.collect.result c.collect.ensures.ran
    (YieldsList-from_copied (YieldsList-at c.copied.ensures.source (YieldsList-from_rest (values_of c.loop-k.listed.entries) c.values.ensures.rest))) in
    let items = rw c.in_ok-collect.was at some in
    listed_ascend pointer_key pointer_from (Contains (take c.loop-k.k c.args.tables.now.doors)) c.loop-k.listed.entries c.in_ok-collect.field-0.items items c.loop-k.invariant c.values.ensures.ordered

pub returns-clause-each : goal.returns-clause-each
returns-clause-each c =
    let some = items_from_collect c.collect.result c.collect.ensures.ran
    (YieldsList-from_copied (YieldsList-at c.copied.ensures.source (YieldsList-from_rest (values_of c.loop-k.listed.entries) c.values.ensures.rest))) in
    let items = rw c.in_ok-collect.was at some in
    let end = c.doors-k-end.ensures in
    let long : length c.args.tables.now.doors ≤ c.loop-k.k = omega (arith, end) in
    let all = take_all c.loop-k.k c.args.tables.now.doors long in
    listed_whole pointer_key pointer_from (Contains c.args.tables.now.doors) c.loop-k.listed.entries c.in_ok-collect.field-0.items items
    (subst (λ l. Lists pointer_key pointer_from (Contains l) c.loop-k.listed.entries) all c.loop-k.invariant)
