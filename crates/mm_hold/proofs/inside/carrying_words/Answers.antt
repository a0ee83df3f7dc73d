use Rattle.std.proofs.Common.{◌↔◌, ◌+◌, take, sym, subst, arith}
use Rattle.std.proofs.lemmas.{List.{take_all}, Iterator.items_from_collect}
use Rattle.std.proofs.lemmas.Iterator.Consumers.{YieldsList-from_copied, YieldsList-at, YieldsList-from_rest}
use Rattle.std.specs.{Prelude.Contains, List.flat_map}
use Rattle.mm_hold.specs.{Deeds.carrying_in, Conducts.AreAll}
use Rattle.mm_hold.proofs.Sets.{all_flat_none, all_flat_more, take_got}
use Rattle.mm_hold.proofs.inside.carrying_words.Goals as goal

pub loop-k-init : goal.loop-k-init
loop-k-init c = all_flat_none carrying_in c.new-words.result.keys c.new-words.ensures.empty

pub loop-k-preserved : goal.loop-k-preserved
loop-k-preserved c =
    let l = c.loop-k in
    let xs = c.args.tables.now.stored in
    all_flat_more carrying_in (take l.k xs) (take (l.k + 1) xs) c.stored_at-held.result l.words.keys c.put_carrying.new.words.keys
    (take_got xs l.k c.stored_at-held.result c.stored_at-held.ensures) l.invariant c.in_ok-put_carrying.ensures

pub returns : goal.returns
returns c =
    let some = items_from_collect c.collect.result c.collect.ensures.ran
    (YieldsList-from_copied (YieldsList-at c.copied.ensures.source (YieldsList-from_rest c.loop-k.words.keys c.iter.ensures.rest))) in
    let items = rw c.in_ok-collect.was at some in
    let end = c.stored-k-end.ensures in
    let test = c.loop-k-test.false in
    let all = take_all c.loop-k.k c.args.tables.now.stored (omega (arith, test, end)) in
    let keys = subst (λ l. AreAll (Contains (flat_map carrying_in l)) c.loop-k.words.keys) all c.loop-k.invariant in
    λ w. subst (λ l. Contains l w ↔ Contains (flat_map carrying_in c.args.tables.now.stored) w) (sym items) (keys.each w)
