use Rattle.std.proofs.Common.{◌≤◌, ℕ, List, ◌++◌, ap, ◌∙◌, arith}
use Rattle.std.proofs.Math.Pow.{pow_mono}
use Rattle.mm_pairs.{specs.Trees.{changed, leaves}, proofs.Names.tree_stays}
use Rattle.mm_config.specs.declared.{put_memory.Changes.Changes}
use Rattle.mm_config.proofs.PutPages.{more_trees, can_put, put_is}
use Rattle.mm_config.proofs.put_memory.put_memory.Goals as goal

pub raised-requires-2-clause-tree : goal.raised-requires-2-clause-tree
raised-requires-2-clause-tree c =
    tree_stays c.args.store.now.pairs c.raised.new.pairs c.in_ok-before.ensures.grown c.args.wanted.now.height c.args.wanted.now.pages c.requires.wanted.3.tree.inner

pub list_changed-requires-clause-was : goal.list_changed-requires-clause-was
list_changed-requires-clause-was c =
    tree_stays c.raised.new.pairs c.raised-2.new.pairs c.in_ok-after.ensures.grown c.max-height.result c.in_ok-before.before c.in_ok-before.ensures.inner

pub list_changed-requires-clause-tree : goal.list_changed-requires-clause-tree
list_changed-requires-clause-tree c = c.in_ok-after.ensures.inner

pub list_changed-requires-clause-depth : goal.list_changed-requires-clause-depth
list_changed-requires-clause-depth c =
    let one = c.requires.was.tree.few in
    let two = c.requires.wanted.3.tree.few in
    omega (arith, one, two, c.max-height.ensures)

pub list_changed-requires-clause-room : goal.list_changed-requires-clause-room
list_changed-requires-clause-room c =
    let one = c.requires.was.tree.few in
    let two = c.requires.wanted.3.tree.few in
    let low : c.max-height.result ≤ 32 = omega (arith, one, two, c.max-height.ensures) in
    let wide = pow_mono {i = c.max-height.result} {j = 32} low in
    omega (arith, wide)

pub put_pages-requires : goal.put_pages-requires
put_pages-requires c =
    let k = c.args.store.now in
    let w = c.requires.wanted in
    let p1 = c.raised.new.pairs in
    let p2 = c.raised-2.new.pairs in
    let height = c.max-height.result in
    let ch : Changes = record { before = c.in_ok-before.before; after = c.in_ok-after.after; height = height; list = c.as_slice.result } in
    let one = c.requires.was.tree.few in
    let two = w.3.tree.few in
    let low : height ≤ 32 = omega (arith, one, two, c.max-height.ensures) in
    let list = c.as_slice.ensures.value ∙ c.in_ok-list_changed.ensures ∙ ap (λ (l : List (ℕ × ℕ)). l ++ changed 0 (leaves p2 height ch.before) (leaves p2 height ch.after)) c.clear.ensures.items in
    can_put k c.args.mem.now c.args.was.now c.args.wanted.now ch p1 p2 c.requires.was c.in_ok-before.ensures c.in_ok-after.ensures low list c.apart.ensures c.pages-count.ensures.paged w.0 w.1 w.2 w.3

pub returns-clause-memory : goal.returns-clause-memory
returns-clause-memory c = λ m whole frames named.
    let k = c.args.store.now in
    let w = c.requires.wanted in
    let p1 = c.raised.new.pairs in
    let p2 = c.raised-2.new.pairs in
    let height = c.max-height.result in
    let ch : Changes = record { before = c.in_ok-before.before; after = c.in_ok-after.after; height = height; list = c.as_slice.result } in
    let one = c.requires.was.tree.few in
    let two = w.3.tree.few in
    let low : height ≤ 32 = omega (arith, one, two, c.max-height.ensures) in
    let list = c.as_slice.ensures.value ∙ c.in_ok-list_changed.ensures ∙ ap (λ (l : List (ℕ × ℕ)). l ++ changed 0 (leaves p2 height ch.before) (leaves p2 height ch.after)) c.clear.ensures.items in
    let can = can_put k c.args.mem.now c.args.was.now c.args.wanted.now ch p1 p2 c.requires.was c.in_ok-before.ensures c.in_ok-after.ensures low list c.apart.ensures c.pages-count.ensures.paged w.0 w.1 w.2 w.3 in
    put_is k c.args.mem.now c.args.was.now c.args.wanted.now ch p1 p2 c.requires.was c.in_ok-before.ensures c.in_ok-after.ensures can c.put_pages.new.mem c.in_ok-put_pages.ensures c.pages-count-2.ensures.paged
    m whole frames named

pub returns-clause-uses : goal.returns-clause-uses
returns-clause-uses c = c.in_ok-put_pages.ensures.uses

pub returns-clause-more : goal.returns-clause-more
returns-clause-more c =
    let ch : Changes = record { before = c.in_ok-before.before; after = c.in_ok-after.after; height = c.max-height.result; list = c.as_slice.result } in
    more_trees c.args.store.now c.args.mem.now c.args.was.now c.args.wanted.now ch c.raised.new.pairs c.raised-2.new.pairs c.requires.was c.in_ok-before.ensures c.in_ok-after.ensures
