use Rattle.std.proofs.Common.{◌≡◌, ◌⊎◌, ◌+◌, ◌<◌, ℕ, slice_index_or, Some, sym, subst, arith}
use Rattle.std.proofs.lemmas.Option.{slice_get-get_or}
use Rattle.mm_pairs.proofs.Names.{length_leaves}
use Rattle.mm_config.specs.Putting.{HasPut, IsPutSoFar}
use Rattle.mm_config.proofs.PutPages.{put_begins, put_skips, put_makes, put_ends, page_of_change, may_put}
use Rattle.mm_config.proofs.put_memory.put_pages.Goals as goal
use Rattle.mm_config.proofs.put_memory.put_pages.Goals.{then-page-ne0+in_ok-put_page, else-page-ne0}

pub loop-place-init : goal.loop-place-init
loop-place-init c = put_begins c.args.store.now c.args.changes.now c.args.mem.now c.requires c.unmap_pages.new.mem c.unmap_pages.ensures

pub number-number-requires : goal.number-number-requires
number-number-requires c =
    let list = c.args.changes.now.list.now in
    let i = c.loop-place.place-index in
    (page_of_change c.args.store.now c.args.changes.now c.args.mem.now c.requires i (slice_index_or list i (0, 0)) (slice_get-get_or list i (0, 0) c.loop-place-test.true)).within

pub leaf-before-requires : goal.leaf-before-requires
leaf-before-requires c =
    let list = c.args.changes.now.list.now in
    let i = c.loop-place.place-index in
    let page = page_of_change c.args.store.now c.args.changes.now c.args.mem.now c.requires i (slice_index_or list i (0, 0)) (slice_get-get_or list i (0, 0) c.loop-place-test.true) in
    let can = c.requires in
    let inside = page.inside in
    let long = length_leaves c.args.store.now.pairs c.args.changes.now.height c.args.changes.now.after in
    let few = can.few in
    record { tree = can.before; place = omega (arith, inside, long); depth = omega (arith, few) }

pub put_page-requires : goal.put_page-requires
put_page-requires c =
    let list = c.args.changes.now.list.now in
    let l = c.loop-place in
    let i = l.place-index in
    let may = may_put c.args.store.now c.args.changes.now c.args.mem.now c.requires i l.mem l.invariant (slice_index_or list i (0, 0)) (slice_get-get_or list i (0, 0) c.loop-place-test.true)
    c.if-page-ne0.true c.pages-count.ensures.paged c.number-number.result c.leaf-before.result c.number-number.ensures c.leaf-before.ensures in
    record { number = may.small; known = may.known; room = may.room; wanted = may.wanted }

pub loop-place-preserved : goal.loop-place-preserved
loop-place-preserved c =
    let k = c.args.store.now in
    let ch = c.args.changes.now in
    let old = c.args.mem.now in
    let l = c.loop-place in
    let i = l.place-index in
    let e : ℕ × ℕ = slice_index_or ch.list.now i (0, 0) in
    let got = slice_get-get_or ch.list.now i (0, 0) c.loop-place-test.true in
    elim c.if-page-ne0.branch [
      | then-page-ne0+in_ok-put_page w ↦
          let now = w.put_page.new.mem in
          let may = may_put k ch old c.requires i l.mem l.invariant e got w.if-page-ne0.true c.pages-count.ensures.paged w.number-number.result w.leaf-before.result w.number-number.ensures w.leaf-before.ensures in
          let page = may.wanted in
          let put = subst (λ q. HasPut l.mem now q (Some page.0)) w.number-number.ensures (w.in_ok-put_page.ensures page.0 page.1) in
          subst (IsPutSoFar k ch (λ index name. (name ≡ 0) ⊎ (index < i + 1)) old) (sym w.mem-is) (put_makes k ch old c.requires i l.mem e got l.invariant now page.0 put page.1)
      | else-page-ne0 w ↦ subst (IsPutSoFar k ch (λ index name. (name ≡ 0) ⊎ (index < i + 1)) old) (sym w.mem-is) (put_skips k ch old c.requires i l.mem e got l.invariant w.if-page-ne0.false)
    ]

pub returns : goal.returns
returns c = put_ends c.args.store.now c.args.changes.now c.args.mem.now c.requires c.loop-place.place-index c.loop-place.mem c.loop-place-test.false c.loop-place.invariant
