use Rattle.std.proofs.Common.{◌≡◌, ap, ◌∙◌, insert, length, nat_eq, arith}
use Rattle.std.proofs.lemmas.{List.Sums.common_prefix_len-le, Option.get_or_from_slice_get, Result.on_ok_weaker}
use Rattle.mm_config.specs.{declared.store.Store.Store, Noting.mapped_pages}
use Rattle.mm_config.proofs.{Noted.{CameAt, came_at, went_at, come_noted, gone_noted, tree_more}, PageCells.more_pairs}
use Rattle.mm_config.proofs.memory.note_page.Goals as goal

come : (c : goal.Then-pages-len) → CameAt c.requires.known.0 c.args.mem.now.memory c.args.mapped.now.items c.first_other-at.result
come c =
    let known = c.requires.known in
    let value = ap length c.deref.ensures.value in
    let long = c.deref.ensures.len in
    let count = c.pages.ensures.count in
    let len = c.len.ensures in
    let more = c.if-pages-len.true in
    came_at known.0 c.args.mem.now.memory c.args.mapped.now.items c.deref.result.now c.first_other-at.result c.deref.ensures.value c.first_other-at.ensures known.2 known.3
    known.1 (omega (arith, value, long, count, len, more))

pub overflow_cast-at : goal.overflow_cast-at
overflow_cast-at c =
    let within = (come c).within in
    let count = c.pages.ensures.count in
    omega (arith, within, count)

pub page_at-number-requires : goal.page_at-number-requires
page_at-number-requires c = (come c).within

pub insert-requires : goal.insert-requires
insert-requires c =
    let low = (common_prefix_len-le nat_eq c.deref.result.now (mapped_pages c.args.mem.now.memory)).0 in
    let at = c.first_other-at.ensures in
    let long = c.deref.ensures.len in
    omega (arith, low, at, long)

pub put_page-requires : goal.put_page-requires
put_page-requires c =
    let k = c.args.store.now in
    let k2 : Store = record k { pairs = c.join.new.self } in
    tree_more k k2 (more_pairs k c.join.new.self c.in_ok-page.ensures.grown) c.args.names.now c.requires.known.4.tree

pub remove-number-requires : goal.remove-number-requires
remove-number-requires c =
    let known = c.requires.known in
    let now = c.args.mem.now.memory in
    let value = ap length c.deref.ensures.value in
    let long = c.deref.ensures.len in
    let count = c.pages.ensures.count in
    let len = c.len.ensures in
    let less = c.if-pages-len.false in
    let old =
    went_at known.0 now c.args.mapped.now.items c.deref.result.now c.first_other-at.result c.deref.ensures.value c.first_other-at.ensures known.2 known.3
    known.1 (omega (arith, value, long, count, len, less)) in
    let within = old.within in
    omega (arith, within, value, long)

pub returns-in_ok-page-clause-names : goal.returns-in_ok-page-clause-names
returns-in_ok-page-clause-names c =
    let known = c.requires.known in
    let now = c.args.mem.now.memory in
    let value = ap length c.deref.ensures.value in
    let long = c.deref.ensures.len in
    let count = c.pages.ensures.count in
    let len = c.len.ensures in
    let more = c.if-pages-len.true in
    let new =
    came_at known.0 now c.args.mapped.now.items c.deref.result.now c.first_other-at.result c.deref.ensures.value c.first_other-at.ensures known.2 known.3
    known.1 (omega (arith, value, long, count, len, more)) in
    let got = new.got in
    let read = c.page_at-number.ensures in
    let same : c.page_at-number.result ≡ new.page = cc in
    on_ok_weaker c.put_page.result
    (come_noted c.args.store.now c.put_page.new.store c.join.new.self known.0 now c.args.names.now c.put_page.new.names new.page c.page_at-number.result c.in_ok-page.page
    known.4 c.in_ok-page.ensures.grown c.in_ok-page.ensures.name new.is same)
    c.put_page.ensures

pub returns-in_ok-page-clause-mapped : goal.returns-in_ok-page-clause-mapped
returns-in_ok-page-clause-mapped c =
    let known = c.requires.known in
    let now = c.args.mem.now.memory in
    let value = ap length c.deref.ensures.value in
    let long = c.deref.ensures.len in
    let count = c.pages.ensures.count in
    let len = c.len.ensures in
    let more = c.if-pages-len.true in
    let new =
    came_at known.0 now c.args.mapped.now.items c.deref.result.now c.first_other-at.result c.deref.ensures.value c.first_other-at.ensures known.2 known.3
    known.1 (omega (arith, value, long, count, len, more)) in
    let got = new.got in
    let read = c.page_at-number.ensures in
    let same : c.page_at-number.result ≡ new.page = cc in
    let list = c.in_ok-insert.ensures.items ∙ ap (insert c.args.mapped.now.items c.first_other-at.result) same ∙ new.list in
    on_ok_weaker c.put_page.result (λ put. list) c.put_page.ensures

pub returns-else-pages-len-clause-names : goal.returns-else-pages-len-clause-names
returns-else-pages-len-clause-names c =
    let known = c.requires.known in
    let now = c.args.mem.now.memory in
    let value = ap length c.deref.ensures.value in
    let long = c.deref.ensures.len in
    let count = c.pages.ensures.count in
    let len = c.len.ensures in
    let less = c.if-pages-len.false in
    let old =
    went_at known.0 now c.args.mapped.now.items c.deref.result.now c.first_other-at.result c.deref.ensures.value c.first_other-at.ensures known.2 known.3
    known.1 (omega (arith, value, long, count, len, less)) in
    let same = c.remove-number.ensures.value ∙ get_or_from_slice_get c.args.mapped.now.items c.first_other-at.result old.page c.remove-number.result old.got in
    on_ok_weaker c.put_page-else-pages-len.result
    (gone_noted c.args.store.now c.put_page-else-pages-len.new.store known.0 now c.args.names.now c.put_page-else-pages-len.new.names old.page c.remove-number.result known.4
    old.is same)
    c.put_page-else-pages-len.ensures

pub returns-else-pages-len-clause-mapped : goal.returns-else-pages-len-clause-mapped
returns-else-pages-len-clause-mapped c =
    let known = c.requires.known in
    let now = c.args.mem.now.memory in
    let value = ap length c.deref.ensures.value in
    let long = c.deref.ensures.len in
    let count = c.pages.ensures.count in
    let len = c.len.ensures in
    let less = c.if-pages-len.false in
    let old =
    went_at known.0 now c.args.mapped.now.items c.deref.result.now c.first_other-at.result c.deref.ensures.value c.first_other-at.ensures known.2 known.3
    known.1 (omega (arith, value, long, count, len, less)) in
    let list = c.remove-number.ensures.items ∙ old.list in
    on_ok_weaker c.put_page-else-pages-len.result (λ put. list) c.put_page-else-pages-len.ensures
